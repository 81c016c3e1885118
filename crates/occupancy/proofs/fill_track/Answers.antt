-- `fill_track`: the record's right ends rise to N (it is fine); `columns_of` and `fill` do the rest.
use native.Mathlib.Omega.{arith}
use Rattle.occupancy.proofs.fill_track.Goals as goal

pub columns_of-columns-requires : goal.columns_of-columns-requires
columns_of-columns-requires c =
    let r = c.requires.0.rule in
    rw (c.right_ends.ensures, c.args.job.now.told.n_is) (record { rising = r.rises; ends_len_bound = r.few })

pub fill-requires : goal.fill-requires
fill-requires c =
    let h = c.requires.0.room in
    record { columns = rw (c.right_ends.ensures, c.args.job.now.told.n_is) at c.columns_of-columns.ensures; head_in_bounds = (omega arith, c.requires.1) }
