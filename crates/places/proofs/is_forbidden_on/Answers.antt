-- By the stage, as the definition goes.
use mathlib.Core.Path.{sym, ◌∙◌}
use Prim.Native.Nat.{◌-◌}
use native.Mathlib.Omega.{arith}
use Rattle.places.specs.Table.{shut, due}
use Rattle.places.proofs.Rows.{forbidden_1, forbidden_2}
use Rattle.places.proofs.is_forbidden_on.Goals as goal

pub returns-then-row-eq1 : goal.returns-then-row-eq1
returns-then-row-eq1 c =
    let a = c.args in let runs = a.table.now.runs in
    λ t l. c.is_shut.ensures ∙ sym (forbidden_1 t (shut runs) (due runs) a.row.i a.c.0 a.row.stage c.if-row-eq1.true l)

pub returns : goal.returns
returns c =
    let a = c.args in let runs = a.table.now.runs in let p = c.requires.0 in
    λ t l. c.is_due.ensures ∙ sym (forbidden_2 t (shut runs) (due runs) a.row.i a.c.0 (a.row.stage - 2) a.row.stage (omega arith) l)
