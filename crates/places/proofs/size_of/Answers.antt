use native.Mathlib.Omega.{arith}
use Rattle.places.proofs.Sizes.{low_start, low_next, low_done}
use Rattle.places.proofs.size_of.Goals as goal

pub loop-top-init : goal.loop-top-init
loop-top-init c = (low_start c.args.t, omega arith, omega arith)

pub loop-top-preserved : goal.loop-top-preserved
loop-top-preserved c = let l = c.loop-top in (low_next c.args.t l.w l.top l.invariant.0 c.loop-top-test.true, omega arith, omega arith)

pub returns : goal.returns
returns c = let l = c.loop-top in low_done c.args.t l.w l.top (omega arith) l.invariant.0 c.loop-top-test.false
