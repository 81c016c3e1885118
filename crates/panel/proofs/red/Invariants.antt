-- `panel::red` passes the columns; no load of those passed exceeds T (the invariant).
use Prim.Native.Nat.{ℕ, ◌≤◌, ◌<◌}
use Rattle.state.specs.State.{t_in, load_in}
use Rattle.panel.proofs.red.Given as goal

abbrev pub invariant-loop-x : goal.invariant-loop-x
invariant-loop-x l = (y : ℕ) → 1 ≤ y → y < l.x → load_in l.state y ≤ t_in l.state
