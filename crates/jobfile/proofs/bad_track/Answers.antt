use mathlib.Core.Path.{refl, ◌∙◌}
use native.Mathlib.Omega.{arith}
use borrow.Author.Count.{below_more}
use Rattle.jobfile.specs.Rows.{start}
use Rattle.jobfile.proofs.Laws.{start_next}
use Rattle.jobfile.proofs.bad_track.Goals as goal

pub loop-u-init : goal.loop-u-init
unfolding start
loop-u-init c = (refl, omega arith, λ x l. absurd (omega arith))

pub loop-u-preserved : goal.loop-u-preserved
loop-u-preserved c = let l = c.loop-u in
    let g = c.if-not-good_track.ensures in
    (c.record_end-at.ensures ∙ start_next _ l.u l.at l.invariant.0, omega (arith, g.room, c.record_end-at.ensures), below_more _ _ l.invariant.2 (rw l.invariant.0 at g))
