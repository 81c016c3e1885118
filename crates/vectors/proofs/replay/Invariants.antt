-- Every record is at least a byte, so that the rest gets shorter, and with the counts it is never more than the file. Assumes nothing.
use Rattle.std.proofs.Common.{length, ◌+◌, ◌≤◌}
use Rattle.vectors.proofs.replay.Given as goal

abbrev pub invariant-loop-rest : goal.invariant-loop-rest
invariant-loop-rest l = l.count.agree + l.count.differ + length l.rest ≤ length l.bytes

abbrev pub decreases-loop-rest : goal.decreases-loop-rest
decreases-loop-rest l = length l.rest
