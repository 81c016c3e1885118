-- Passed so far are all stages before `stage`, and in it all rows before connection i + 1: with what is left they make n.
use mathlib.Core.Path.{◌≡◌}
use Prim.Native.Nat.{◌+◌}
use lib.ListN.{length}
use Rattle.places.specs.Places.{row_of, places_before}
use Rattle.places.specs.Table.{table_grid}
use Rattle.places.proofs.seek.Given as goal

abbrev pub invariant-loop-stage : goal.invariant-loop-stage
invariant-loop-stage l = length (places_before (table_grid l.table.runs l.table.tracks l.table.connections) (row_of l.stage 0)) + l.rest ≡ l.n

abbrev pub invariant-loop-i : goal.invariant-loop-i
invariant-loop-i l = length (places_before (table_grid l.table.runs l.table.tracks l.table.connections) (row_of l.stage l.i)) + l.rest ≡ l.n
