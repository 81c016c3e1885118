-- The walk keeps the marks of the labels passed, a legal partial routing (`Going`): a label that fits beside them is kept, and one that does not ends it. Assumes nothing.
use Rattle.judge.proofs.Going.{Going}
use Rattle.judge.proofs.bad_label.Given as goal

abbrev pub invariant-loop-i : goal.invariant-loop-i
invariant-loop-i l = Going l.job.bytes.now l.labels l.marks.0 l.i
