-- By the stage.
use Prim.Native.Nat.{◌-◌}
use native.Mathlib.Omega.{arith}
use Rattle.model.proofs.Walking.{own-only, other_too}
use Rattle.model.proofs.other.Goals as goal

pub returns-then-row-lt2 : goal.returns-then-row-lt2
returns-then-row-lt2 c = let a = c.args in record { inside = omega arith; both = λ codes n. own-only codes a.row.i n a.row.stage c.if-row-lt2.true }

pub returns : goal.returns
returns c = let a = c.args in record { inside = omega arith; both = λ codes n. other_too codes a.row.i n (a.row.stage - 2) a.row.stage (omega arith) }
