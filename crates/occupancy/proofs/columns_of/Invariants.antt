-- `columns_of` stands at column x, which lies in segment k (the invariant); the next column lies in the next segment exactly if segment k ends in x.
use mathlib.Core.Path.{◌≡◌}
use Prim.Native.Nat.{ℕ, ◌≤◌, ◌<◌}
use lib.ListN.{length, get_or}
use Rattle.occupancy.specs.Columns.{Over}
use Rattle.occupancy.proofs.columns_of.Given as goal

abbrev pub invariant-loop-x : goal.invariant-loop-x
invariant-loop-x l = (1 ≤ l.x) × (length l.columns ≡ 256) × (l.x ≤ l.n → Over l.ends l.x l.k) × ((y : ℕ) → y < l.x → 1 ≤ y → Over l.ends y (get_or l.columns y 0))
