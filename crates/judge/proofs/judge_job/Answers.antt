-- The labels are counted and walked, and each way out is one of the laws by_length, by_label, by_legal. Assumes nothing.
use mathlib.Core.Path.{◌∙◌}
use Rattle.judge.proofs.Laws.{by_label, by_legal}
use Rattle.judge.proofs.judge_job.Goals as goal

pub returns-in-Some : goal.returns-in-Some
returns-in-Some c =
    let job = c.args.job.now in
    rw c.at-in-Some.ensures (by_label job.bytes.now c.args.labels.now job.facts (c.if-labels-from.false ∙ c.from.ensures ∙ job.told.m_is) c.in-Some.bad c.in-Some.ensures)

pub returns-in-None : goal.returns-in-None
returns-in-None c =
    let job = c.args.job.now in
    by_legal job.bytes.now c.args.labels.now (c.if-labels-from.false ∙ c.from.ensures ∙ job.told.m_is) c.in-None.ensures
