-- `too_many`: a run from first to last has last + 1 less first segments (taken-run), compared without a difference.
use mathlib.Core.Path.{◌∙◌}
use Prim.Native.Nat.{◌+◌}
use lib.Dec.{leb}
use Rattle.occupancy.proofs.Cells.{many_is}
use Rattle.occupancy.proofs.too_many.Goals as goal

pub returns : goal.returns
returns c =
    let a = c.args in
    λ t k r. (λ i. leb (c.from.ensures i + c.from-2.ensures i) (c.from-3.ensures i)) ∙ many_is a.limit t k a.first a.last r
