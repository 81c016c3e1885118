-- `owner_on`: the mark that is read is that of the job's connection (connection-at).
use mathlib.Core.Path.{ap, ◌∙◌}
use Rattle.channel.specs.Channel.{net_in, net}
use Rattle.jobfile.proofs.Places.{connection-at}
use Rattle.occupancy.specs.Runs.{owner_of}
use Rattle.occupancy.proofs.owner_on.Goals as goal

pub returns : goal.returns
unfolding net
returns c =
    let at = connection-at c.args.job.now.bytes.now c.args.job.now.facts c.args.i c.requires in
    rw at (c.owner_of.ensures ∙ ap (λ m. owner_of (net_in m) c.args.i) c.connection_of.ensures.mark_is)
