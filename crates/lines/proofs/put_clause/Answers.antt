-- One bar or two, and the end of the line: what each call puts down, one after the other, is the line of the clause at the place.
use borrow.Author.Rules.{rules}
use Rattle.text.proofs.Writing.{◌followed_by◌, wrote_to}
use Rattle.lines.proofs.Words.{one_line, two-line}
use Rattle.lines.proofs.put_clause.Goals as goal
use Rattle.lines.proofs.put_clause.Goals.{in-One, in-Two}

pub returns : goal.returns
returns c =
    elim c.match-p.branch [
      | in-One w ↦ rw (w.in-One.is, one_line c.args.w w.in-One.i w.in-One.c) (wrote_to (w.put_bar.ensures.wrote followed_by rw w.out-is at c.put_text.ensures) (search rules))
      | in-Two w ↦ rw (w.in-Two.is, two-line c.args.w w.in-Two.h w.in-Two.i w.in-Two.c) (wrote_to (w.put_bar-in-Two.ensures.wrote followed_by w.put_bar-in-Two-2.ensures.wrote followed_by rw w.out-is at c.put_text.ensures) (search rules))
    ]
