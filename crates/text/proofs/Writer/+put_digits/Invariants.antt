-- The digits before the last are written by the call with one digit less, then the last: what `digits` says, one law a branch. The measure is the fuel.
use Rattle.text.proofs.Writer.+put_digits.Given as goal

abbrev pub decreases-put_digits : goal.decreases-put_digits
decreases-put_digits l = l.fuel
