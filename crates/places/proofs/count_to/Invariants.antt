-- Counted so far are the row's places with a code below `c`. Stage 0 is counted without a loop.
use mathlib.Core.Path.{◌≡◌}
use Prim.Native.Nat.{◌≤◌}
use lib.ListN.{length}
use Rattle.places.specs.Table.{table_row}
use Rattle.places.proofs.count_to.Given as goal

abbrev pub invariant-loop-c : goal.invariant-loop-c
invariant-loop-c l = (l.k ≤ l.c) × (l.k ≡ length (table_row l.table.runs l.table.tracks l.row l.c))
