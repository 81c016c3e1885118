use mathlib.Core.Path.{refl, ◌∙◌}
use Prim.Native.Nat.{◌<◌}
use native.Mathlib.Omega.{arith}
use lib.ListN.{length-set, get_or-replicate}
use Rattle.channel.specs.Limits.{most_tracks}
use Rattle.jobfile.specs.Rows.{start}
use Rattle.jobfile.proofs.Laws.{start_next}
use Rattle.jobfile.proofs.Places.{offsets_next, offsets_rest}
use Rattle.jobfile.proofs.file.JobFile.starts.Goals as goal

pub loop-u-init : goal.loop-u-init
unfolding start
loop-u-init c = (refl, refl, (λ x l. absurd (omega arith)), λ x l m. get_or-replicate most_tracks x 0 0 m)

pub loop-u-preserved : goal.loop-u-preserved
loop-u-preserved c = let l = c.loop-u in
    let f = c.args.self.now.bytes.now in
    let k : l.u < most_tracks = omega (arith, c.from-u-end.ensures, c.args.self.now.told.t_is, c.args.self.now.facts.limits.t_high) in
    (length-set l.offsets l.u l.at ∙ l.invariant.0, c.record_end-at.ensures ∙ start_next f l.u l.at l.invariant.1, offsets_next f l.offsets l.u l.at (omega arith) l.invariant.1 l.invariant.2, offsets_rest l.offsets l.u l.at l.invariant.3)
