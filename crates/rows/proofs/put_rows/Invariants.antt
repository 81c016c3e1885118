-- The cell that is read for a label, which is not barred, has the first and last occupied segment; a line more a turn (`Going`). Assumes nothing.
use Rattle.rows.proofs.Going.{Going}
use Rattle.rows.proofs.put_rows.Given as goal

abbrev pub invariant-loop-i : goal.invariant-loop-i
invariant-loop-i l = Going l.job.bytes.now l.labels l.initial.out l.out l.i
