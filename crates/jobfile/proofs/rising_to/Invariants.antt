-- `rising_to`: the ends not yet passed rise from the last one passed exactly if all rise from 0 (the invariant).
use mathlib.Core.Logic.{◌↔◌}
use lib.ListN.{drop}
use Rattle.channel.specs.Valid.{Rising}
use Rattle.jobfile.proofs.rising_to.Given as goal

abbrev pub invariant-loop-end : goal.invariant-loop-end
invariant-loop-end l = Rising l.n l.last (drop l.end-index l.ends) ↔ Rising l.n 0 l.ends
