-- `state::Piece::turn_span` passes the columns, and the loads of those passed are turned: all of them for one on its own, and else those that no piece reaches, where
-- `far` is the furthest that the pieces set down at those passed reach (the invariants).
use mathlib.Core.Path.{◌≡◌}
use Prim.Native.Nat.{◌-◌}
use Rattle.state.specs.Walks.{in_span, furthest, Turned}
use Rattle.state.proofs.Free.{free}
use Rattle.state.proofs.Piece.turn_span.Given as goal

abbrev pub invariant-loop-x : goal.invariant-loop-x
invariant-loop-x l = Turned (in_span l.first l.x) l.way l.initial.state l.state

abbrev pub invariant-loop-x-2 : goal.invariant-loop-x-2
invariant-loop-x-2 l = record {
  reached : l.far ≡ furthest l.reach l.first (l.x - l.first);
  turned : Turned (free l.reach l.first l.x) l.way l.initial.state l.state;
}
