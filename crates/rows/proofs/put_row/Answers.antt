-- Eight texts, one after the other. Assumes nothing.
use borrow.Author.Rules.{rules}
use Rattle.text.proofs.Writing.{◌followed_by◌}
use Rattle.rows.specs.Rows.{row_text}
use Rattle.rows.proofs.put_row.Goals as goal

pub returns-clause-wrote : goal.returns-clause-wrote
unfolding row_text
returns-clause-wrote c = search (rules, ◌followed_by◌) depth 12
