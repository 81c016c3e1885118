use Prim.Native.Nat.{◌+◌}
use mathlib.Core.Path.{◌≡◌}
use native.Mathlib.Omega.{arith}
use Rattle.text.proofs.Writing.{puts_none}
use Rattle.jobfile.specs.File.{joined}
use Rattle.jobfile.specs.Rows.{tab}
use Rattle.part.specs.Part.{tracks_in}
use Rattle.part.specs.Writes.{told}
use Rattle.part.proofs.Table.{track_long}
use Rattle.part.proofs.Sections.{puts_record}
use Rattle.part.proofs.held.Part.put_tracks.Goals as goal

pub loop-t-init : goal.loop-t-init
unfolding joined tab
loop-t-init c = (omega (arith, c.args.self.now.rule.cut.first), puts_none c.args.out.now)

pub put_track-requires : goal.put_track-requires
put_track-requires c =
    let t = c.loop-t.t in
    let cut = c.args.self.now.rule.cut in
    let long = track_long (told c.args.self.now).table t (cut.within (t + 1) (omega arith)) in
    rw c.ends_of.ensures (record { ends_len_bound = omega (arith, long, cut.narrow t (omega arith)); ends_in_bounds = omega (arith, long, cut.rises t (omega arith), cut.within (t + 1) (omega arith)) })

pub loop-t-preserved : goal.loop-t-preserved
loop-t-preserved c =
    let l = c.loop-t in
    let cut = c.args.self.now.rule.cut in
    let table = (told c.args.self.now).table in
    let long = track_long table l.t (cut.within (l.t + 1) (omega arith)) in
    let put = rw c.ends_of.ensures at c.put_track.ensures in
    (omega (arith, long, cut.rises l.t (omega arith), put.wrote.next), puts_record table cut l.t c.flag_of.ensures l.invariant.1 put)

pub returns : goal.returns
returns c =
    let l = c.loop-t in
    let table = (told c.args.self.now).table in
    let e : l.t ≡ tracks_in table = omega arith in
    rw e at l.invariant.1
