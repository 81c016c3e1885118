-- The parts one after the other.
use borrow.Author.Rules.{rules}
use Rattle.text.proofs.Writing.{◌followed_by◌, wrote_to}
use Rattle.dimacs.specs.Lines.{header_text}
use Rattle.lines.proofs.put_header.Goals as goal

pub returns : goal.returns
unfolding header_text
returns c = wrote_to (c.put_text.ensures followed_by c.put_digits.ensures.wrote followed_by c.put.ensures followed_by c.put_digits-2.ensures.wrote followed_by c.put-2.ensures) (search rules)
