-- The reader's refusals are the judge's, and past them the judgement on the file that was read. Assumes nothing.
use native.Mathlib.Omega.{arith}
use Rattle.std.proofs.lemmas.Result.{err_from_is_err_and}
use Rattle.refusals.specs.Refusal.{number_of}
use Rattle.judge.proofs.Laws.{by_file, judged}
use Rattle.judge.proofs.judge.Goals as goal

pub returns-in_err-read : goal.returns-in_err-read
returns-in_err-read c =
    let p = err_from_is_err_and c.from_residual.result c.from_residual.ensures.1 in
    let r = c.in_err-read.field-0.0 in
    rw (p.1, p.2) (by_file c.args.file.now c.args.labels.now (number_of r.reason) r.place c.in_err-read.ensures)

pub returns : goal.returns
returns c = let r = c.in_ok-read in judged c.args.file.now c.args.labels.now (rw r.ensures at r.field-0.facts) (λ i. omega (arith, c.type_inv.file i)) c.judge_job.result (rw r.ensures at c.judge_job.ensures)
