-- By the stage.
use Prim.Native.Nat.{◌-◌}
use native.Mathlib.Omega.{arith}
use Rattle.places.proofs.Rows.{place-one, place-two}
use Rattle.places.proofs.place_at.Goals as goal

pub returns-then-row-lt2 : goal.returns-then-row-lt2
returns-then-row-lt2 c = let a = c.args in place-one a.row.i a.c.0 a.row.stage c.if-row-lt2.true

pub returns : goal.returns
returns c = let a = c.args in place-two a.row.i a.c.0 (a.row.stage - 2) a.row.stage (omega arith)
