-- `take`: the table tells the run and its owner, and the run its marks.
use Rattle.std.proofs.Common.{arith}
use Rattle.std.proofs.lemmas.Grind.{common_steps}
use Rattle.marks.specs.Marking.{taken_in}
use Rattle.marks.proofs.Marks.take.Goals as goal

pub returns : goal.returns
unfolding taken_in
returns c = grind (arith, common_steps)
