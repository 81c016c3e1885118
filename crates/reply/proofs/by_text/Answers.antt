-- The reading, made through the reader over the text, tells which row of 6 and 7 holds, or the marks of the model; row 8 is weighed by them.
use mathlib.Core.Path.{◌≡◌, ap, ◌∙◌}
use Prim.Native.Nat.{◌*◌}
use Rattle.std.specs.Prelude.{Ok}
use Rattle.std.proofs.lemmas.Result.{err_from_is_err_and}
use Rattle.jobfile.specs.Rows.{job_of}
use Rattle.clauses.specs.Clauses.{variable_count}
use Rattle.reply.proofs.Weighing.{counted}
use Rattle.reply.proofs.Answering.{answered_6, answered_claimed, answered_unknown, answered_wrong, answered_missing, answered_accepted, answered_8}
use Rattle.reply.proofs.by_text.Goals as goal
use Rattle.reply.proofs.by_text.Goals.{After-read_all-reading}

-- the reading is over the job's variables
count : (w : After-read_all-reading) → w.from.result * w.from-2.result ≡ variable_count (job_of w.args.job.now.bytes.now)
count w = let job = w.args.job.now in counted job.bytes.now job.sizes _ _ w.from.result w.from-2.result job.told w.size_of-size.ensures w.from.ensures w.from-2.ensures

pub returns-in-Some : goal.returns-in-Some
returns-in-Some c =
    let s = c.in-Ok-Sat in
    rw c.at-in-Some.ensures (answered_wrong c.args.job.now.bytes.now c.args.text.now c.args.labels.now _ (count (goal.at.returns-in-Some c).After-read_all-reading) _ _ _ c.read_all-reading.ensures s.count (s.is ∙ ap Ok (rw s.is at s.field-0-is)) c.in-Some.wrong c.in-Some.is)

pub returns-then-count-variables : goal.returns-then-count-variables
returns-then-count-variables c =
    let s = c.in-Ok-Sat in
    rw c.at-then-count-variables.ensures (answered_missing c.args.job.now.bytes.now c.args.text.now c.args.labels.now _ (count (goal.at.returns-then-count-variables c).After-read_all-reading) _ _ _ c.read_all-reading.ensures s.count (s.is ∙ ap Ok (rw s.is at s.field-0-is)) c.in_default.is c.if-count-variables.true)

pub returns-in_err-weigh-in-Ok-Sat : goal.returns-in_err-weigh-in-Ok-Sat
returns-in_err-weigh-in-Ok-Sat c =
    let s = c.in-Ok-Sat in
    let p = err_from_is_err_and c.from_residual.result c.from_residual.ensures.1 in
    rw (p.1, p.2) (answered_8 c.args.job.now.bytes.now c.args.text.now c.args.labels.now _ (count (goal.at.returns-in_err-weigh-in-Ok-Sat c).After-read_all-reading) _ _ _ c.read_all-reading.ensures s.count (s.is ∙ ap Ok (rw s.is at s.field-0-is)) c.in_default.is c.if-count-variables.false c.in_err-weigh-in-Ok-Sat.field-0.0 c.weigh.new.labels c.in_err-weigh-in-Ok-Sat.ensures)

pub returns-in-Err : goal.returns-in-Err
returns-in-Err c =
    rw c.at.ensures (answered_6 c.args.job.now.bytes.now c.args.text.now c.args.labels.now _ (count (goal.at.returns-in-Err c).After-read_all-reading) _ _ _ c.read_all-reading.ensures c.in-Err.place c.in-Err.is)

pub returns-in-Ok-Claimed : goal.returns-in-Ok-Claimed
returns-in-Ok-Claimed c =
    let s = c.in-Ok-Claimed in
    answered_claimed c.args.job.now.bytes.now c.args.text.now c.args.labels.now _ (count (goal.at.returns-in-Ok-Claimed c).After-read_all-reading) _ _ _ c.read_all-reading.ensures (s.is ∙ ap Ok (rw s.is at s.field-0-is))

pub returns-in-Ok-Unknown : goal.returns-in-Ok-Unknown
returns-in-Ok-Unknown c =
    let s = c.in-Ok-Unknown in
    answered_unknown c.args.job.now.bytes.now c.args.text.now c.args.labels.now _ (count (goal.at.returns-in-Ok-Unknown c).After-read_all-reading) _ _ _ c.read_all-reading.ensures (s.is ∙ ap Ok (rw s.is at s.field-0-is))

pub returns-in_ok-weigh-in-Ok-Sat : goal.returns-in_ok-weigh-in-Ok-Sat
returns-in_ok-weigh-in-Ok-Sat c =
    let s = c.in-Ok-Sat in
    answered_accepted c.args.job.now.bytes.now c.args.text.now c.args.labels.now _ (count (goal.at.returns-in_ok-weigh-in-Ok-Sat c).After-read_all-reading) _ _ _ c.read_all-reading.ensures s.count (s.is ∙ ap Ok (rw s.is at s.field-0-is)) c.in_default.is c.if-count-variables.false c.weigh.new.labels c.in_ok-weigh-in-Ok-Sat.ensures
