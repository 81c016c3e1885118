-- The row in which the number lies, and its code there.
use mathlib.Core.Path.{ap}
use lib.ListN.{length}
use Rattle.places.proofs.Rows.{row_is}
use Rattle.places.proofs.Finding.{found_in}
use Rattle.places.proofs.find.Goals as goal

pub code_in-requires-clause-n_in_bounds : goal.code_in-requires-clause-n_in_bounds
code_in-requires-clause-n_in_bounds c =
    let s = c.args.table.now in
    rw (← ap length (row_is s.runs s.tracks c.in_ok-spot.spot.row s.connections)) c.in_ok-spot.ensures.short

pub returns : goal.returns
returns c =
    let s = c.args.table.now in
    rw c.place_at.ensures (found_in s.runs s.tracks s.connections c.args.n c.in_ok-spot.spot c.in_ok-spot.ensures c.code_in.result.0 c.code_in.ensures)
