-- The three counts together are the cuts that were held, so each fits. Assumes nothing.
use Rattle.std.proofs.Common.{◌≡◌, length, ◌+◌, ◌<◌, ◌^◌}
use Rattle.replies.proofs.cuts.Given as goal

abbrev pub invariant-loop-end : goal.invariant-loop-end
invariant-loop-end l = l.tally.refused + l.tally.same + l.tally.other ≡ l.end
