-- No smaller number of bits will do (`Low`), at the start and after each doubling; when t codes have room, it is w.
use Prim.Native.Nat.{◌≤◌, ◌-◌}
use Rattle.places.proofs.Sizes.{Low}
use Rattle.places.proofs.size_of.Given as goal

abbrev pub invariant-loop-top : goal.invariant-loop-top
invariant-loop-top l = Low l.t l.w l.top × (l.w ≤ l.top) × (2 ≤ l.top)

abbrev pub decreases-loop-top : goal.decreases-loop-top
decreases-loop-top l = l.t - l.top
