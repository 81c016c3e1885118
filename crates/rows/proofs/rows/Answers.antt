-- The reader's refusals come first, then the room, then the judge's; what the judge found legal is a routing, and its lines are written.
-- Each way out is one of the laws by_file, by_room, by_judge, by_legal. Assumes nothing.
use mathlib.Core.Path.{refl}
use Prim.Native.Nat.{◌*◌, ◌≤◌}
use native.Mathlib.Omega.{arith}
use lib.ListN.{length}
use borrow.Author.Rules.{rules}
use Rattle.std.proofs.lemmas.Result.{err_from_is_err_and}
use Rattle.refusals.specs.Refusal.{number_of}
use Rattle.jobfile.specs.Rows.{m_of}
use Rattle.jobfile.specs.Facts.{Facts}
use Rattle.jobfile.proofs.Exact.{facts_file, job_numbers}
use Rattle.text.proofs.Writing.{wrote_to}
use Rattle.rows.specs.Rows.{row_room}
use Rattle.rows.proofs.Laws.{by_file, by_room, by_judge, by_legal}
use Rattle.rows.proofs.rows.Goals as goal
use Rattle.rows.proofs.rows.Goals.{In_ok-job, Else-text-from}

facts : (w : In_ok-job) → Facts w.args.file.now
facts w = rw w.in_ok-job.ensures at w.in_ok-job.job.facts

room : (w : Else-text-from) → m_of w.args.file.now * row_room ≤ length w.args.text.now
room w = let t = rw w.in_ok-job.ensures at w.in_ok-job.job.told.m_is in omega arith

pub returns-in_err-job : goal.returns-in_err-job
returns-in_err-job c =
    let p = err_from_is_err_and c.from_residual.result c.from_residual.ensures.1 in
    let r = c.in_err-job.field-0.0 in
    rw (p.1, p.2) (by_file c.args.file.now c.args.labels.now (length c.args.text.now) (number_of r.reason) r.place c.in_err-job.ensures, refl)

pub returns-then-text-from : goal.returns-then-text-from
returns-then-text-from c =
    let t = rw c.in_ok-job.ensures at c.in_ok-job.job.told.m_is in
    rw c.at.ensures (by_room c.args.file.now c.args.labels.now (length c.args.text.now) (facts (goal.at.returns-then-text-from c).In_ok-job) (omega arith), refl)

pub returns-in-Err : goal.returns-in-Err
returns-in-Err c =
    let r = c.in-Err.refusal in
    (by_judge c.args.file.now c.args.labels.now (length c.args.text.now) (room (goal.at.returns-in-Err c).Else-text-from) (number_of r.reason) r.place (rw c.in_ok-job.ensures at c.in-Err.ensures), refl)

pub put_rows-requires : goal.put_rows-requires
put_rows-requires c =
    let r = c.in_default.ensures in
    let m = (job_numbers c.in_ok-job.job.bytes.now).m_is in
    (r, omega (arith, r.whole, c.in_ok-job.job.told.m_is))

pub returns : goal.returns
returns c =
    let f = c.args.file.now in
    by_legal f c.args.labels.now c.args.text.now _ c.put_rows.new.out.at
    (facts_file f (facts (goal.at.returns c).In_ok-job) (λ i. omega (arith, c.type_inv.file i)))
    (rw c.in_ok-job.ensures at c.in_default.ensures)
    (room (goal.at.returns c).Else-text-from)
    (wrote_to (rw c.in_ok-job.ensures at c.put_rows.ensures.wrote) (search rules))
