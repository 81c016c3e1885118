-- `fits`: the table tells the run and its owner, and the run whether it is free.
use Rattle.std.proofs.Common.{arith}
use Rattle.std.proofs.lemmas.Grind.{common_steps}
use Rattle.marks.specs.Marking.{fits_in}
use Rattle.marks.proofs.Marks.fits.Goals as goal

pub returns : goal.returns
unfolding fits_in
returns c = grind (arith, common_steps)
