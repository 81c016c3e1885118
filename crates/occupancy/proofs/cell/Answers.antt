-- `cell`: the columns give the run (given-run), and the run its cell.
use Rattle.occupancy.proofs.Cells.{given-run}
use Rattle.occupancy.proofs.cell.Goals as goal

pub returns : goal.returns
returns c = λ t k g. let r = given-run _ _ _ _ _ t k g in c.bounds_of.ensures t k (rw (c.from.ensures, c.from-2.ensures) r.0) (rw (c.from.ensures, c.from-2.ensures) r.1) g.flag_is g.mark_is
