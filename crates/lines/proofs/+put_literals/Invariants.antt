-- The literals of the higher bits are put down first, by a call for one bit less; then comes the lowest bit's, and a blank. The number of bits falls.
use Rattle.lines.proofs.+put_literals.Given as goal

abbrev pub decreases-put_literals : goal.decreases-put_literals
decreases-put_literals l = l.k
