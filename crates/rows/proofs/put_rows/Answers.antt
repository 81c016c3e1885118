use Rattle.rows.proofs.Going.{going_first, going_low, going_high, going_connection, going_on}
use Rattle.rows.proofs.put_rows.Goals as goal

pub loop-i-init : goal.loop-i-init
loop-i-init c = going_first c.args.job.now.bytes.now c.args.labels.now c.args.out.now c.args.job.now.facts c.requires.0 c.requires.1

pub bounds_on-run-requires : goal.bounds_on-run-requires
bounds_on-run-requires c =
    let g = c.loop-i.invariant in
    let h = c.loop-i-test.true in
    (c.starts-heads.ensures, going_low g h, going_high g h, going_connection g h)

pub loop-i-preserved : goal.loop-i-preserved
loop-i-preserved c = going_on c.loop-i.invariant c.loop-i-test.true c.bounds_on-run.ensures (rw (c.from.ensures, c.from-first.ensures, c.from-last.ensures) at c.put_row.ensures.wrote) c.put_row.ensures.upper_bound
