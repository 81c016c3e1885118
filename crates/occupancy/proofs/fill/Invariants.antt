-- `fill` passes the connections: the cells of those passed are the track's, and every other track's cells are what they were (the invariant).
use mathlib.Core.Path.{◌≡◌}
use lib.ListN.{length}
use Rattle.jobfile.specs.Rows.{track_read}
use Rattle.occupancy.specs.Runs.{table_bytes}
use Rattle.occupancy.specs.Columns.{Cells, Others}
use Rattle.occupancy.proofs.fill.Given as goal

abbrev pub invariant-loop-i : goal.invariant-loop-i
invariant-loop-i l = let f = l.job.bytes.now in (length l.runs ≡ table_bytes) × (length l.initial.runs ≡ table_bytes) × Cells f l.i (track_read f l.head) l.code.0 l.runs × Others l.code.0 l.initial.runs l.runs
