-- Three texts, one after the other. Assumes nothing.
use Rattle.text.proofs.Writing.{◌followed_by◌}
use Rattle.report.specs.Report.{verdict_text}
use Rattle.report.proofs.put_verdict.Goals as goal
use Rattle.report.proofs.put_verdict.Goals.{in-Routed, in-Unroutable, in-Undecided}

pub returns-clause-wrote : goal.returns-clause-wrote
unfolding verdict_text
returns-clause-wrote c =
    let p = c.put_text.ensures followed_by c.put_digits.ensures.wrote followed_by c.put.ensures in
    elim c.match-verdict.branch [
      | in-Routed w ↦ rw w.in-Routed.is (rw w.trials-is at p)
      | in-Unroutable w ↦ rw w.in-Unroutable.is (rw w.trials-is at p)
      | in-Undecided w ↦ rw w.in-Undecided.is (rw w.trials-is at p)
    ]
