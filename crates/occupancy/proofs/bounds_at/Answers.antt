-- `bounds_at`: the connection's two columns lie on the track's right ends (read_reaches); they give the run, and the run its cell.
use mathlib.Core.Path.{refl}
use Prim.Native.Nat.{◌+◌, ◌*◌}
use Rattle.jobfile.specs.Rows.{connections_at, track_read, connection_read}
use Rattle.occupancy.proofs.Cells.{read_reaches, rule_run}
use Rattle.occupancy.proofs.bounds_at.Goals as goal

pub run_of-run-requires : goal.run_of-run-requires
run_of-run-requires c =
    let e = c.connection_of-k.ensures in
    rw (c.right_ends.ensures, e.left_is, e.right_is) (read_reaches c.args.job.now.bytes.now c.args.job.now.facts c.args.head c.args.i c.requires.0 c.requires.1)

pub returns : goal.returns
returns c =
    let e = c.connection_of-k.ensures in
    let job = c.args.job.now in
    let f = job.bytes.now in
    let over = rw (c.right_ends.ensures, e.left_is, e.right_is) at c.run_of-run.ensures in
    let run = rule_run _ (track_read f c.args.head) _ c.requires.0.rule.rises (job.facts.connection c.args.i c.requires.1) _ _ over.0 over.1 in
    rw job.told.k_is at (c.bounds_of.ensures (track_read f c.args.head) (connection_read f (connections_at f + 3 * c.args.i)) run.0 run.1 refl e.mark_is)
