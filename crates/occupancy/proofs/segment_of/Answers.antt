use Prim.Native.Nat.{◌-◌}
use native.Mathlib.Omega.{arith}
use lib.ListN.{length}
use Rattle.occupancy.proofs.Intervals.{reaches_some, reaches_next}
use Rattle.occupancy.proofs.segment_of.Goals as goal

-- the last right end is the channel's last column, so it is not before x
pub unreachable-requires : goal.unreachable-requires
unreachable-requires c =
    let es = c.args.ends.now in
    let s = reaches_some es c.args.x c.requires in
    let last = c.loop-k.invariant (length es - 1) (omega (arith, c.loop-k-test.false)) in
    omega (arith, reaches_next es c.args.x c.requires (length es - 1) (omega arith) last)
