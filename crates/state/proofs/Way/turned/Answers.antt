-- `state::Way::turned` meets its contract: one more, and at its most it stays.
use mathlib.Core.Path.{◌∙◌}
use native.Mathlib.Omega.{arith}
use Rattle.state.proofs.Walks.{up_min}
use Rattle.state.proofs.Way.turned.Goals as goal

pub returns-in-Up : goal.returns-in-Up
returns-in-Up c = let w = c.ranges.load in rw c.in-Up.is (c.saturating_add.ensures ∙ up_min c.args.load (omega arith))
