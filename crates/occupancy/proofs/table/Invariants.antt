-- `table` fills in one track after the other: the cells of the tracks passed are right (the invariant), and stay so, since no other track's cells change.
use mathlib.Core.Path.{◌≡◌}
use Prim.Native.Nat.{ℕ, ◌<◌}
use lib.ListN.{length}
use Rattle.jobfile.specs.Rows.{m_of, start, track_read}
use Rattle.occupancy.specs.Runs.{table_bytes}
use Rattle.occupancy.specs.Columns.{Cells}
use Rattle.occupancy.proofs.table.Given as goal

abbrev pub invariant-loop-c : goal.invariant-loop-c
invariant-loop-c l = let f = l.job.bytes.now in (length l.runs ≡ table_bytes) × ((b : ℕ) → b < l.c → Cells f (m_of f) (track_read f (start f b)) b l.runs)
