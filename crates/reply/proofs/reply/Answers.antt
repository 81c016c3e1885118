-- The file is read first; a job's file and a buffer with room leave the answer to the text.
use mathlib.Core.Path.{refl}
use native.Mathlib.Omega.{arith}
use lib.ListN.{length}
use Rattle.std.proofs.lemmas.Result.{err_from_is_err_and}
use Rattle.refusals.specs.Refusal.{number_of}
use Rattle.jobfile.proofs.Exact.{facts_file, facts_pass}
use Rattle.reply.proofs.Rows.{refused_file, refused_room}
use Rattle.reply.proofs.Bridge.{answered_replies}
use Rattle.reply.proofs.reply.Goals as goal

pub returns-in_err-job : goal.returns-in_err-job
returns-in_err-job c =
    let a = c.args in let r = c.in_err-job.field-0.0 in
    let p = err_from_is_err_and c.from_residual.result c.from_residual.ensures.1 in
    rw (p.1, p.2) (refused_file a.file.now (length a.labels.now) a.text.now (number_of r.reason) r.place c.in_err-job.ensures, refl)

pub returns-then-labels-from : goal.returns-then-labels-from
returns-then-labels-from c =
    let a = c.args in
    let facts = rw c.in_ok-job.ensures at c.in_ok-job.job.facts in
    let told = rw c.in_ok-job.ensures at c.in_ok-job.job.told in
    rw c.at.ensures (refused_room a.file.now (length a.labels.now) a.text.now (facts_pass a.file.now facts) (omega (arith, told.m_is, c.from.ensures, c.if-labels-from.true)), refl)

pub returns : goal.returns
returns c =
    let a = c.args in
    let facts = rw c.in_ok-job.ensures at c.in_ok-job.job.facts in
    let told = rw c.in_ok-job.ensures at c.in_ok-job.job.told in
    answered_replies a.file.now a.text.now a.labels.now (facts_pass a.file.now facts) (omega (arith, told.m_is, c.from.ensures, c.if-labels-from.false)) (facts_file a.file.now facts (λ i. omega (arith, c.type_inv.file i))) c.by_text.result c.by_text.new.labels (rw c.in_ok-job.ensures at c.by_text.ensures)
