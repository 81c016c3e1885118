-- Passed so far are all stages before `stage`, and in it all rows before connection i + 1, with their `k` places. Of a row only the place at its
-- connection's code can be false.
use Rattle.std.proofs.Common.{◌≡◌, length}
use Rattle.places.specs.Places.{row_of, places_before}
use Rattle.places.specs.Table.{table_grid}
use Rattle.model.proofs.Walking.{Quiet}
use Rattle.model.proofs.first_false.Given as goal

abbrev pub invariant-loop-stage : goal.invariant-loop-stage
invariant-loop-stage l = let before = places_before (table_grid l.table.runs l.table.tracks l.table.connections) (row_of l.stage 0) in (l.k ≡ length before) × Quiet l.codes before

abbrev pub invariant-loop-i : goal.invariant-loop-i
invariant-loop-i l = let before = places_before (table_grid l.table.runs l.table.tracks l.table.connections) (row_of l.stage l.i) in (l.k ≡ length before) × Quiet l.codes before
