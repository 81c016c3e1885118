use Rattle.text.proofs.Writing.{◌followed_by◌, puts_none}
use Rattle.lines.proofs.Words.{literals-none, literals_more}
use Rattle.lines.proofs.+put_literals.Goals as goal

pub returns-then-k-eq0-clause-wrote : goal.returns-then-k-eq0-clause-wrote
returns-then-k-eq0-clause-wrote t c =
    let a = c.args in
    rw (literals-none a.k a.variable a.code.0 c.if-k-eq0.true) (puts_none a.out.now)

pub returns-clause-wrote : goal.returns-clause-wrote
returns-clause-wrote t c =
    let a = c.args in
    rw (literals_more a.k a.variable a.code.0 c.if-k-eq0.false) (c.put_literals.ensures.wrote followed_by rw c.from.ensures at c.put_literal.ensures.wrote followed_by c.put.ensures)
