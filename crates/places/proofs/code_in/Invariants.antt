-- Passed so far are the row's places with a code below `c`: with what is left to pass they make n.
use mathlib.Core.Path.{◌≡◌}
use Prim.Native.Nat.{◌+◌}
use lib.ListN.{length}
use Rattle.places.specs.Table.{table_row}
use Rattle.places.proofs.code_in.Given as goal

abbrev pub invariant-loop-c : goal.invariant-loop-c
invariant-loop-c l = length (table_row l.table.runs l.table.tracks l.row l.c) + l.k ≡ l.n
