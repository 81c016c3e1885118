-- A plain literal is its digits, a negated one a minus and its digits.
use Rattle.text.proofs.Writing.{◌followed_by◌}
use Rattle.lines.proofs.Words.{literal-plain, literal_negated}
use Rattle.lines.proofs.put_literal.Goals as goal
use Rattle.lines.proofs.put_literal.Goals.{then-negated, else-negated}

pub returns-clause-wrote : goal.returns-clause-wrote
returns-clause-wrote c =
    elim c.if-negated.branch [
      | then-negated w ↦ rw (literal_negated _ _ w.if-negated.true) (w.put.ensures followed_by rw w.out-is at c.put_digits.ensures.wrote)
      | else-negated w ↦ rw (literal-plain _ _ w.if-negated.false) (rw w.out-is at c.put_digits.ensures.wrote)
    ]
