use mathlib.Core.Path.{◌≡◌, sym, ap, ◌∙◌}
use mathlib.Core.Bool.{true, false}
use native.Mathlib.Omega.{arith}
use lib.ListN.{length}
use Rattle.places.specs.Table.{table_row}
use Rattle.places.proofs.Rows.{count_none, count_next}
use Rattle.places.proofs.code_in.Goals as goal
use Rattle.places.proofs.code_in.Goals.{then-is_forbidden+else-k-eq0, else-is_forbidden}

pub loop-c-init : goal.loop-c-init
loop-c-init c = let s = c.args.table.now in let z = count_none s.runs s.tracks c.args.row in omega arith

pub loop-c-preserved : goal.loop-c-preserved
loop-c-preserved c =
    let s = c.args.table.now in
    let next = count_next s.runs s.tracks c.args.row c.loop-c.c in
    let e = c.is_forbidden.ensures in let i = c.loop-c.invariant in
    elim c.if-is_forbidden.branch [
      | then-is_forbidden+else-k-eq0 w ↦ let n = next true (sym e ∙ w.if-is_forbidden.true) in omega arith
      | else-is_forbidden w ↦ let n = next false (sym e ∙ w.if-is_forbidden.false) in omega arith
    ]

pub returns-then-k-eq0 : goal.returns-then-k-eq0
returns-then-k-eq0 c = record { below = omega (arith, c.loop-c-test.true, c.size_of-c-end.ensures.power); there = sym c.is_forbidden.ensures ∙ c.if-is_forbidden.true; nth = omega (arith, c.if-k-eq0.true, c.loop-c.invariant) }

-- at the end every place of the row is passed, and the row has more than n
pub unreachable-requires : goal.unreachable-requires
unreachable-requires c =
    let s = c.args.table.now in let n = c.requires.n_in_bounds in
    let end : c.loop-c.c ≡ c.size_of-c-end.result.top = omega arith in
    let e = ap (λ x. length (table_row s.runs s.tracks c.args.row x)) (end ∙ c.size_of-c-end.ensures.power) in
    omega (arith, c.loop-c.invariant)
