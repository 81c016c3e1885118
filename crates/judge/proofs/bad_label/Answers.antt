use lib.ListN.{get_or}
use Rattle.channel.specs.Channel.{track_at, connection_at}
use Rattle.jobfile.specs.Rows.{k_of, job_of}
use Rattle.occupancy.specs.Runs.{Cell}
use Rattle.judge.proofs.Going.{going_first, Asked, going_low, going_high, asked_among, asked_shut, asked_open, asked_on}
use Rattle.judge.proofs.bad_label.Goals as goal
use Rattle.judge.proofs.bad_label.Goals.{Else-job-label, After-from-last}

asked : (e : Else-job-label) → Asked e.args.job.now.bytes.now e.args.labels.now e.loop-i.marks.0 e.loop-i.i
asked e = record { going = e.loop-i.invariant; inside = e.loop-i-test.true; low = e.if-label-lt1.false; high = rw e.args.job.now.told.t_is at e.if-job-label.false }

-- the cell that was read for it
cell : (w : After-from-last) → let f = w.args.job.now.bytes.now in let i = w.loop-i.i in Cell (k_of f) (track_at (job_of f).tracks (get_or w.args.labels.now i 0)) (connection_at (job_of f).connections i) w.from-first.result w.from-last.result
cell w = rw (w.from-first.ensures, w.from-last.ensures) w.bounds_on-run.ensures

pub loop-i-init : goal.loop-i-init
loop-i-init c = rw c.none-marks.ensures (going_first c.args.job.now.bytes.now c.args.labels.now c.args.job.now.facts c.requires)

pub returns-then-label-lt1 : goal.returns-then-label-lt1
returns-then-label-lt1 c = going_low c.loop-i.invariant c.loop-i-test.true c.if-label-lt1.true

pub returns-then-job-label : goal.returns-then-job-label
returns-then-job-label c = going_high c.loop-i.invariant c.loop-i-test.true (rw c.args.job.now.told.t_is at c.if-job-label.true)

pub fits_run-requires : goal.fits_run-requires
fits_run-requires c = asked_among (asked (goal.at.fits_run-requires c).Else-job-label) (cell (goal.at.fits_run-requires c).After-from-last)

pub returns-then-not-fits_run : goal.returns-then-not-fits_run
returns-then-not-fits_run c = asked_shut (asked (goal.at.returns-then-not-fits_run c).Else-job-label) (cell (goal.at.returns-then-not-fits_run c).After-from-last) c.owner_on-owner.ensures c.fits_run.ensures c.if-not-fits_run.true

pub take_run-requires : goal.take_run-requires
take_run-requires c =
    let k = asked (goal.at.take_run-requires c).Else-job-label in
    let w = cell (goal.at.take_run-requires c).After-from-last in
    (asked_among k w, asked_open k w c.owner_on-owner.ensures c.fits_run.ensures c.if-not-fits_run.false)

pub loop-i-preserved : goal.loop-i-preserved
loop-i-preserved c = asked_on (asked (goal.at.loop-i-preserved c).Else-job-label) (cell (goal.at.loop-i-preserved c).After-from-last) c.owner_on-owner.ensures c.fits_run.ensures c.if-not-fits_run.false c.take_run.new.self.0 c.take_run.ensures
