use mathlib.Core.Path.{◌≡◌, sym, ap, ◌∙◌}
use mathlib.Core.Bool.{true, false}
use native.Mathlib.Omega.{arith}
use lib.ListN.{length}
use Rattle.places.specs.Table.{table_row}
use Rattle.places.proofs.Rows.{count_none, count_next, count-beyond}
use Rattle.places.proofs.count_to.Goals as goal
use Rattle.places.proofs.count_to.Goals.{then-is_forbidden_on, else-is_forbidden_on}

pub returns-then-row-eq0 : goal.returns-then-row-eq0
returns-then-row-eq0 c =
    let a = c.args in let s = a.table.now in let z = c.if-row-eq0.true in
    let e = c.reach-end.ensures.beyond z in let h = count-beyond s.runs s.tracks a.row z a.n in
    (omega arith, omega arith)

pub loop-c-init : goal.loop-c-init
loop-c-init c = let s = c.args.table.now in (omega arith, sym (count_none s.runs s.tracks c.args.row))

pub loop-c-preserved : goal.loop-c-preserved
loop-c-preserved c =
    let s = c.args.table.now in
    let next = count_next s.runs s.tracks c.args.row c.loop-c.c in
    let e = c.is_forbidden_on.ensures s.tracks (omega (arith, c.loop-c-test.true, c.reach-end.ensures.tracks)) in
    let i = c.loop-c.invariant in
    elim c.if-is_forbidden_on.branch [
      | then-is_forbidden_on w ↦ let n = next true (sym e ∙ w.if-is_forbidden_on.true) in (omega arith, omega arith)
      | else-is_forbidden_on w ↦ let n = next false (sym e ∙ w.if-is_forbidden_on.false) in (omega arith, omega arith)
    ]

pub returns : goal.returns
returns c =
    let a = c.args in let s = a.table.now in
    let e : c.loop-c.c ≡ c.reach-end.result = omega arith in
    let few = c.reach-end.ensures.few in
    (c.from-2.ensures ∙ c.loop-c.invariant.1 ∙ ap (λ n. length (table_row s.runs s.tracks a.row n)) e ∙ ap length (c.reach-end.ensures.same c.if-row-eq0.false s.runs), omega arith)
