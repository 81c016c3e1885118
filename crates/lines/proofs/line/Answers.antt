-- The reader refuses by rows 1 to 5; then the buffer decides row 9. What the table tells of a line is what the job tells, for the table has the job's clauses.
use mathlib.Core.Path.{refl}
use native.Mathlib.Omega.{arith}
use Rattle.std.proofs.lemmas.Result.{err_from_is_err_and}
use Rattle.lines.proofs.Answers.{refused_file, refused_room, answered}
use Rattle.lines.proofs.line.Goals as goal

pub returns-in_err-job : goal.returns-in_err-job
returns-in_err-job c =
    let a = c.args in
    let p = err_from_is_err_and c.from_residual.result c.from_residual.ensures.1 in
    rw (p.1, p.2) (refused_file a.file.now a.buffer.now a.number c.in_err-job.field-0.0 c.in_err-job.ensures, refl)

pub returns-then-buffer-lt-MOST_LINE : goal.returns-then-buffer-lt-MOST_LINE
returns-then-buffer-lt-MOST_LINE c =
    let a = c.args in
    let facts = rw c.in_ok-job.ensures at c.in_ok-job.job.facts in
    rw c.at.ensures (refused_room a.file.now a.buffer.now a.number facts c.if-buffer-lt-MOST_LINE.true, refl)

pub returns : goal.returns
returns c =
    let a = c.args in
    let facts = rw c.in_ok-job.ensures at c.in_ok-job.job.facts in
    let table = rw c.in_ok-job.ensures at c.table-table.ensures in
    answered a.file.now a.buffer.now a.number facts c.table-table.result table c.if-buffer-lt-MOST_LINE.false (λ i. omega (arith, c.type_inv.file i)) c.line_of.result c.line_of.new.buf c.line_of.ensures
