use mathlib.Core.Path.{◌≡◌, ap, ◌∙◌}
use native.Mathlib.Omega.{arith}
use lib.ListN.{get_or}
use Rattle.jobfile.specs.Rows.{start}
use Rattle.occupancy.proofs.Cells.{filled_next, all_tabled}
use Rattle.occupancy.proofs.table.Goals as goal
use Rattle.occupancy.proofs.table.Goals.{After-from}

-- in a turn: `heads` has the start of the track's record
head : (c : After-from) → get_or c.starts-heads.result c.from.result 0 ≡ start c.args.job.now.bytes.now c.loop-c.c
head c = ap (λ z. get_or c.starts-heads.result z 0) c.from.ensures ∙ c.starts-heads.ensures.at c.loop-c.c (omega (arith, c.loop-c-test.true, c.args.job.now.told.t_is))

pub fill_track-requires : goal.fill_track-requires
fill_track-requires c = let job = c.args.job.now in
    (rw (head (goal.at.fill_track-requires c).After-from) (job.facts.fine c.loop-c.c (omega (arith, c.loop-c-test.true, job.told.t_is))), omega (arith, c.loop-c-test.true, job.told.t_is, job.facts.limits.t_high))

pub loop-c-preserved : goal.loop-c-preserved
loop-c-preserved c =
    let l = c.loop-c in
    let job = c.args.job.now in
    let g = rw (head (goal.at.loop-c-preserved c).After-from) at c.fill_track.ensures in
    (g.long ∙ l.invariant.0, filled_next job.bytes.now l.runs _ l.c (omega (arith, c.loop-c-test.true, job.told.t_is, job.facts.limits.t_high)) g l.invariant.1)

pub returns : goal.returns
returns c = let job = c.args.job.now in
    record {
      runs = all_tabled job.bytes.now c.loop-c.runs _ job.facts c.loop-c.invariant.0 (λ b h. c.loop-c.invariant.1 b (omega (arith, c.loop-c-test.false, job.told.t_is))) c.fill_owners.ensures;
      t_is = job.told.t_is;
      m_is = c.from-2.ensures ∙ job.told.m_is;
    }
