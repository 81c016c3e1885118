-- `segment_of` stops at the first right end that is not before x; there is one, for the last is the channel's last column.
use Prim.Native.Nat.{ℕ, ◌<◌}
use lib.ListN.{get_or}
use Rattle.occupancy.proofs.segment_of.Given as goal

abbrev pub invariant-loop-k : goal.invariant-loop-k
invariant-loop-k l = (i : ℕ) → i < l.k → get_or l.ends i 0 < l.x
