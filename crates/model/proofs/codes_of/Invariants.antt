-- The codes of the connections below `i` are there.
use mathlib.Core.Path.{◌≡◌}
use Prim.Native.Nat.{ℕ, ◌<◌, ◌+◌, ◌*◌}
use lib.ListN.{length, get_or}
use Rattle.channel.specs.Label.{code}
use Rattle.model.specs.Codes.{code_from}
use Rattle.model.proofs.codes_of.Given as goal

abbrev pub invariant-loop-i : goal.invariant-loop-i
invariant-loop-i l = (length l.code-items ≡ length l.initial.code-items) × ((x : ℕ) → x < l.i → get_or l.code-items x (code 0) ≡ code (code_from l.marks (x * l.w + 1) l.w))
