-- `fill_owners` passes the connections: the owners of those passed stand behind the cells, which are what they were (the invariant).
use mathlib.Core.Path.{◌≡◌}
use lib.ListN.{length}
use Rattle.occupancy.specs.Runs.{table_bytes}
use Rattle.occupancy.specs.Columns.{OwnersFilled}
use Rattle.occupancy.proofs.fill_owners.Given as goal

abbrev pub invariant-loop-i : goal.invariant-loop-i
invariant-loop-i l = (length l.initial.runs ≡ table_bytes) × OwnersFilled l.job.bytes.now l.i l.initial.runs l.runs
