use mathlib.Core.Path.{refl, ◌∙◌}
use Prim.Native.Nat.{◌+◌, ◌<◌}
use native.Mathlib.Omega.{arith}
use lib.ListN.{length}
use Rattle.channel.specs.Limits.{most_tracks}
use Rattle.jobfile.specs.Rows.{n_of, m_of, track_read}
use Rattle.occupancy.specs.Runs.{cell_at}
use Rattle.occupancy.proofs.Cells.{written-length, cells_next, others_next}
use Rattle.occupancy.proofs.fill.Goals as goal

pub loop-i-preserved : goal.loop-i-preserved
loop-i-preserved c =
    let l = c.loop-i in
    let job = c.args.job.now in
    let f = job.bytes.now in
    let e = c.connection_of.ensures in
    let inside : l.i < m_of f = omega (arith, c.loop-i-test.true, c.from-i-end.ensures, job.told.m_is) in
    let cell = rw job.told.k_is at (c.cell-bounds.ensures (track_read f c.args.head) _ (record { n = n_of f; track = c.requires.columns; connection = job.facts.connection l.i inside; flag_is = refl; left_is = e.left_is; right_is = e.right_is; mark_is = e.mark_is })) in
    let below = c.requires.head_in_bounds.1 in
    let room = rw c.cell_at-to.ensures.0 at c.cell_at-to.ensures.1 in
    let room : cell_at l.i c.args.code.0 + most_tracks < length l.runs = omega (arith, room) in
    rw c.cell_at-to.ensures.0
    (written-length l.runs l.i c.args.code.0 _ _ room ∙ l.invariant.0, l.invariant.1, cells_next f _ c.args.code.0 l.i _ _ c.args.runs.now l.runs below room l.invariant.2 cell, others_next f (track_read f c.args.head) c.args.code.0 l.i _ _ c.args.runs.now l.runs below room l.invariant.3)
