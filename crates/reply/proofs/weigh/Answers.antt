-- The codes of the marks are below 2 ^ w, and the walk over the table finds the first clause that they make false; if there is none, their labels are written.
use native.Mathlib.Omega.{arith}
use Rattle.model.specs.Codes.{Codes}
use Rattle.reply.proofs.Weighing.{codes-below, codes_few, weighs_false, weighs_true}
use Rattle.reply.proofs.weigh.Goals as goal
use Rattle.reply.proofs.weigh.Goals.{After-codes_of-codes}

-- the codes are those of the size's bits
coded : (w : After-codes_of-codes) → Codes w.args.marks.now w.size_of-size.result.w w.table-table.result.connections w.codes_of-codes.result
coded w = rw w.from.ensures at w.codes_of-codes.ensures

pub first_false-requires : goal.first_false-requires
first_false-requires c =
    codes-below c.args.marks.now c.codes_of-codes.result c.table-table.result.tracks _ _ c.table-table.result.connections c.size_of-size.ensures (coded (goal.at.first_false-requires c).After-codes_of-codes)

pub returns-in-Err : goal.returns-in-Err
returns-in-Err c =
    rw c.at.ensures (weighs_false c.args.job.now.bytes.now c.args.marks.now c.codes_of-codes.result c.table-table.result _ _ c.size_of-size.ensures (coded (goal.at.returns-in-Err c).After-codes_of-codes) c.table-table.ensures c.in-Err.place c.in-Err.ensures c.args.labels.now)

pub write_labels-requires-clause-below : goal.write_labels-requires-clause-below
write_labels-requires-clause-below c =
    codes_few c.args.marks.now c.codes_of-codes.result c.table-table.result.tracks _ _ c.table-table.result.connections c.size_of-size.ensures (coded (goal.at.write_labels-requires-clause-below c).After-codes_of-codes)

pub returns : goal.returns
returns c =
    weighs_true c.args.job.now.bytes.now c.args.marks.now c.codes_of-codes.result c.table-table.result _ _ c.size_of-size.ensures (coded (goal.at.returns c).After-codes_of-codes) c.table-table.ensures c.in_default.field-0 c.in_default.ensures c.args.labels.now c.write_labels.new.labels (omega (arith, c.table-table.ensures.m_is, c.requires)) c.write_labels.ensures
