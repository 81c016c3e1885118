-- Each way out writes what its answer prints: nothing of one that is too long or refused, or the verdict's lines. Assumes nothing.
use mathlib.Core.Path.{◌≡◌, refl, ◌∙◌}
use Prim.Native.Nat.{◌≤◌}
use native.Mathlib.Omega.{arith}
use lib.ListN.{length}
use Rattle.std.proofs.lemmas.Result.{err_from_is_err_and}
use Rattle.refusals.specs.Refusal.{number_of}
use Rattle.jobfile.specs.Rows.{m_of, job_of}
use Rattle.jobfile.specs.Reads.{FileOf}
use Rattle.jobfile.proofs.Exact.{facts_file, job_numbers}
use Rattle.report.specs.Report.{program_budget, too_long, refused}
use Rattle.report.proofs.Prints.{Begins, routed_begins, written_routed, written_alone}
use Rattle.report.proofs.put_answer.Goals as goal
use Rattle.report.proofs.put_answer.Goals.{In_ok-job, After-from-m}

file : (w : In_ok-job) → FileOf w.args.input.now (job_of w.args.input.now)
file w = facts_file w.args.input.now (rw w.in_ok-job.ensures at w.in_ok-job.job.facts) (λ i. omega (arith, w.type_inv.input i))

-- where a routing is found: it is in as many labels as there are connections
found : (w : After-from-m) → Begins w.in_ok-job.job.bytes.now w.route_job.new.labels program_budget w.in-Routed.field-0
found w = let d = rw w.in-Routed.is at w.in_ok-verdict.ensures in routed_begins w.in_ok-job.job.bytes.now _ w.route_job.new.labels program_budget w.in-Routed.field-0 d.1

count : (w : After-from-m) → w.from-m.result ≡ m_of w.in_ok-job.job.bytes.now
count w = w.from-m.ensures ∙ w.in_ok-job.job.told.m_is

pub returns-then-input-gt-MOST_INPUT : goal.returns-then-input-gt-MOST_INPUT
returns-then-input-gt-MOST_INPUT c = rw c.at.ensures (too_long c.if-input-gt-MOST_INPUT.true, refl)

pub returns-in_err-job : goal.returns-in_err-job
returns-in_err-job c =
    let p = err_from_is_err_and c.from_residual.result c.from_residual.ensures.1 in
    let r = c.in_err-job.field-0.0 in
    rw (p.1, p.2) (refused (number_of r.reason) r.place c.if-input-gt-MOST_INPUT.false c.in_err-job.ensures, refl)

pub put_rows-requires : goal.put_rows-requires
put_rows-requires c =
    let w = (goal.at.put_rows-requires c).After-from-m in
    let t = found w in
    let job = c.in_ok-job.job in
    let l = job.facts.limits.m_high in
    let m = (job_numbers job.bytes.now).m_is in
    let p = c.put_verdict-status.ensures.wrote.long in
    rw (count w) (t.decides.0.routing, omega (arith, t.long, c.put_verdict-status.ensures.upper_bound))

pub returns-in-Routed : goal.returns-in-Routed
returns-in-Routed c =
    let w = (goal.at.returns-in-Routed c).After-from-m in
    let l = c.in_ok-job.job.facts.limits.m_high in
    let m = (job_numbers c.in_ok-job.job.bytes.now).m_is in
    let t = found w in
    let v = rw c.in-Routed.is at c.put_verdict-status.ensures.wrote in
    let p = rw (count w) at c.put_rows.ensures.wrote in
    let b = rw (count w) at c.put_rows.ensures.upper_bound in
    let r : c.put_rows.new.out.at ≤ length c.put_rows.new.out.buf.now = omega (arith, b, t.long, c.put_verdict-status.ensures.upper_bound, c.put_rows.ensures.wrote.long, c.put_verdict-status.ensures.wrote.long) in
    rw (c.put_verdict-status.ensures.status, c.in-Routed.is)
    (written_routed (file (goal.at.returns-in-Routed c).In_ok-job) c.if-input-gt-MOST_INPUT.false r c.in-Routed.field-0 c.route_job.new.labels (rw c.in_ok-job.ensures at t) v (rw c.in_ok-job.ensures at p))

pub returns-in_default : goal.returns-in_default
returns-in_default c =
    let d = rw c.in_ok-job.ensures at c.in_ok-verdict.ensures in
    rw c.put_verdict-status.ensures.status
    (written_alone (file (goal.at.returns-in_default c).In_ok-job) c.if-input-gt-MOST_INPUT.false (omega (arith, c.put_verdict-status.ensures.upper_bound, c.put_verdict-status.ensures.wrote.long)) c.in_ok-verdict.verdict _ c.route_job.new.labels c.in_default.not-Routed d.1 c.put_verdict-status.ensures.wrote)
