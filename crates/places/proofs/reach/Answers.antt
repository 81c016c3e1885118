-- No code is forbidden where the connection is not behind the stage's, and behind stage 0 none from t on.
use native.Mathlib.Omega.{arith}
use Rattle.places.proofs.Rows.{row_reach, row_empty}
use Rattle.places.proofs.reach.Goals as goal

pub returns-then-row : goal.returns-then-row
returns-then-row c =
    let a = c.args in let l = c.if-row.true in
    record { few = omega arith; tracks = omega arith; beyond = λ e. absurd (omega arith); same = λ z runs. row_empty runs a.t a.row a.n l }

pub returns : goal.returns
returns c =
    let a = c.args in
    record { few = omega arith; tracks = omega arith; beyond = λ e. omega arith; same = λ z runs. row_reach runs a.t a.row c.min.result a.n z c.min.ensures }
