-- `route::route`: a row of the file decides, or it is read and the answer is that of `route_job`. Assumes nothing.
use mathlib.Core.Path.{refl}
use native.Mathlib.Omega.{arith}
use Rattle.jobfile.proofs.Exact.{facts_file}
use Rattle.std.proofs.lemmas.Result.{err_from_is_err_and}
use Rattle.route.proofs.Rows.{refused_file, job_answers}
use Rattle.route.proofs.route.Goals as goal

pub returns-in_err-read : goal.returns-in_err-read
returns-in_err-read c =
    let p = err_from_is_err_and c.from_residual.result c.from_residual.ensures.1 in
    rw (p.1, p.2) (refused_file _ _ _ _ c.in_err-read.ensures, refl)

pub returns : goal.returns
returns c =
    let r = c.in_ok-read in
    let f = c.args.file.now in
    let facts = rw r.ensures at r.field-0.facts in
    job_answers f c.args.budget c.args.labels.now c.route_job.new.labels c.route_job.result facts (facts_file f facts (λ i. omega (arith, c.type_inv.file i))) (rw r.ensures at c.route_job.ensures)
