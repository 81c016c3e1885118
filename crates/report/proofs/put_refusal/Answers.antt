-- Five texts, one after the other. Assumes nothing.
use Rattle.text.proofs.Writing.{◌followed_by◌}
use Rattle.report.specs.Report.{refused_text}
use Rattle.report.proofs.put_refusal.Goals as goal

pub returns-clause-wrote : goal.returns-clause-wrote
unfolding refused_text
returns-clause-wrote c = rw (c.from.ensures, c.number.ensures) at (c.put_text.ensures followed_by c.put_digits.ensures.wrote followed_by c.put.ensures followed_by c.put_digits-2.ensures.wrote followed_by c.put-2.ensures)
