-- The code so far is that of the bits so far.
use mathlib.Core.Path.{◌≡◌}
use Rattle.model.specs.Codes.{code_from}
use Rattle.model.proofs.code_at.Given as goal

abbrev pub invariant-loop-mark : goal.invariant-loop-mark
invariant-loop-mark l = l.code ≡ code_from l.marks l.v l.mark-index
