-- `state::Piece::reaches` passes the connections; the array has how far those passed reach (the invariant).
use Rattle.state.specs.Walks.{SetDown}
use Rattle.state.proofs.Piece.reaches.Given as goal

abbrev pub invariant-loop-i : goal.invariant-loop-i
invariant-loop-i l = SetDown l.state l.i l.self.at l.left l.self.mark l.reach
