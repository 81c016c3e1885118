-- `bounds_on`: the table of starts has the record of the label's track, which is fine, and the cell that is read there is the job's.
use mathlib.Core.Path.{◌≡◌, ap, ◌∙◌}
use Prim.Native.Nat.{◌-◌}
use native.Mathlib.Omega.{arith}
use lib.ListN.{get_or}
use Rattle.channel.specs.declared.Code.{Code}
use Rattle.jobfile.specs.Rows.{start}
use Rattle.jobfile.proofs.Places.{track_at_lem, connection-at}
use Rattle.occupancy.proofs.bounds_on.Goals as goal
use Rattle.occupancy.proofs.bounds_on.Goals.{After-from}

head : (w : After-from) → get_or w.args.heads.now w.from.result 0 ≡ start w.args.job.now.bytes.now (w.args.label.0 - 1)
head w = ap (λ z. get_or w.args.heads.now z 0) (w.from.ensures ∙ ap (λ (x : Code). x.0) w.code_of-code.ensures) ∙ w.requires.0.at (w.args.label.0 - 1) (omega (arith, w.requires.1, w.requires.2))

pub bounds_at-requires : goal.bounds_at-requires
bounds_at-requires c = (rw (head (goal.at.bounds_at-requires c).After-from) (c.args.job.now.facts.fine (c.args.label.0 - 1) (omega (arith, c.requires.1, c.requires.2))), c.requires.3)

pub returns : goal.returns
returns c = let job = c.args.job.now in
    rw (track_at_lem job.bytes.now job.facts c.args.label.0 c.requires.1 c.requires.2, connection-at job.bytes.now job.facts c.args.i c.requires.3) (rw (head (goal.at.returns c).After-from) at c.bounds_at.ensures)
