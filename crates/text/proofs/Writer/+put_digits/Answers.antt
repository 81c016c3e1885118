use Rattle.text.proofs.Writing.{◌followed_by◌, digits-zero, digits-small, digits_more}
use Rattle.text.proofs.Writer.+put_digits.Goals as goal
use Rattle.text.proofs.Writer.+put_digits.Goals.{then-fuel-ne0+then-n-ge10, else-fuel-ne0, else-fuel-ne0-via-then-fuel-ne0+else-n-ge10, else-fuel-ne0-via-else-fuel-ne0}

pub returns-clause-wrote : goal.returns-clause-wrote
returns-clause-wrote t c =
    let a = c.args in
    elim c.if-fuel-ne0.branch [
      | then-fuel-ne0+then-n-ge10 w ↦ rw (digits_more a.fuel a.n w.if-fuel-ne0.true w.if-n-ge10.true) (w.put_digits.ensures.wrote followed_by (rw w.self-is at c.put.ensures))
      | else-fuel-ne0 w ↦ elim w.else-fuel-ne0.branch [
        | else-fuel-ne0-via-then-fuel-ne0+else-n-ge10 v ↦ rw (digits-small a.fuel a.n v.if-n-ge10.false) (rw w.self-is at c.put.ensures)
        | else-fuel-ne0-via-else-fuel-ne0 v ↦ rw (digits-zero a.fuel a.n v.if-fuel-ne0.false) (rw w.self-is at c.put.ensures)
      ]
    ]
