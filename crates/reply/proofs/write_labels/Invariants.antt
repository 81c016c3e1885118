-- The labels of the connections below `i` are written.
use mathlib.Core.Path.{◌≡◌}
use Prim.Native.Nat.{ℕ, ◌<◌}
use lib.ListN.{length, get_or}
use Rattle.channel.specs.Label.{code, label_of}
use Rattle.reply.proofs.write_labels.Given as goal

abbrev pub invariant-loop-i : goal.invariant-loop-i
invariant-loop-i l = (length l.label-items ≡ length l.initial.label-items) × ((x : ℕ) → x < l.i → get_or l.label-items x 0 ≡ (label_of (get_or l.codes x (code 0))).0)
