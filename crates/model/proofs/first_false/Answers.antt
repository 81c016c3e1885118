use mathlib.Core.Path.{◌≡◌, sym, ap, ◌∙◌, subst}
use mathlib.Core.Bool.{◌&&◌}
use Prim.Native.Nat.{◌+◌, ◌≤◌}
use native.Mathlib.Omega.{arith}
use lib.Dec.{eqb}
use lib.ListN.{length, length-append}
use Rattle.places.specs.Places.{row_of, row_places, places_of, places_before}
use Rattle.places.specs.Table.{table_grid, many_clauses}
use Rattle.places.proofs.Rows.{before-first, before_next, before_wrap, before_end, before_few, row_count}
use Rattle.model.specs.Codes.{code_for}
use Rattle.model.specs.Walks.{FirstFalse}
use Rattle.model.proofs.Walking.{Quiet, quiet_none, row-false, row-true}
use Rattle.model.proofs.first_false.Goals as goal
use Rattle.model.proofs.first_false.Goals.{In-loop-i}

-- the places passed and the row's own are not too many
few : (w : In-loop-i) → let s = w.args.table.now in length (places_before (table_grid s.runs s.tracks s.connections) (row_of w.loop-stage.stage w.loop-i.i)) + length (row_places (table_grid s.runs s.tracks s.connections) (row_of w.loop-stage.stage w.loop-i.i)) ≤ many_clauses
few w = let s = w.args.table.now in before_few s.runs s.tracks s.connections (row_of w.loop-stage.stage w.loop-i.i) s.few_tracks s.few_connections (omega arith) (omega arith)

pub loop-stage-init : goal.loop-stage-init
loop-stage-init c =
    let s = c.args.table.now in
    let e = before-first (table_grid s.runs s.tracks s.connections) in
    (ap length (sym e), subst (Quiet c.args.codes.now) (sym e) (quiet_none c.args.codes.now))

pub overflow_add-result : goal.overflow_add-result
overflow_add-result c = omega (arith, few (goal.at.overflow_add-result c).In-loop-i, c.loop-i.invariant.0, c.count_to.ensures.1)

pub overflow_add-result-then-d-c : goal.overflow_add-result-then-d-c
overflow_add-result-then-d-c c = omega (arith, few (goal.at.overflow_add-result-then-d-c c).In-loop-i, c.loop-i.invariant.0, c.count_to.ensures.1)

pub returns-then-d-c : goal.returns-then-d-c
returns-then-d-c c =
    let s = c.args.table.now in let codes = c.args.codes.now in
    let row = row_of c.loop-stage.stage c.loop-i.i in
    let below = c.requires c.loop-i.i c.loop-i-test.true in
    let test = ap (λ b. eqb (code_for codes c.other-h.result) (code_for codes row.i) && b) (sym c.is_forbidden.ensures) ∙ c.if-d-c.true in
    subst (λ n. FirstFalse codes (places_of (table_grid s.runs s.tracks s.connections)) (c.loop-i.k + n + 1)) (sym c.count_to.ensures.0)
    (row-false s.runs codes s.tracks s.connections row c.other-h.result c.other-h.ensures c.loop-i.invariant.1 test c.loop-stage-test.true c.loop-i-test.true below c.loop-i.k c.loop-i.invariant.0)

pub overflow_add-k : goal.overflow_add-k
overflow_add-k c = omega (arith, few (goal.at.overflow_add-k c).In-loop-i, c.loop-i.invariant.0, c.count_to-k.ensures.1)

pub loop-i-preserved : goal.loop-i-preserved
loop-i-preserved c =
    let s = c.args.table.now in let codes = c.args.codes.now in let g = table_grid s.runs s.tracks s.connections in
    let row = row_of c.loop-stage.stage c.loop-i.i in
    let passed = before_next g row.stage row.i in
    let here = row_count s.runs s.tracks row s.connections c.size_of-size.result.top c.count_to-k.result c.size_of-size.ensures.power c.count_to-k.ensures.0 in
    let all = ap length passed ∙ length-append (places_before g row) (row_places g row) in
    let test = ap (λ b. eqb (code_for codes c.other-h.result) (code_for codes row.i) && b) (sym c.is_forbidden.ensures) ∙ c.if-d-c.false in
    (omega (arith, all, here, c.loop-i.invariant.0), subst (Quiet codes) (sym passed) (row-true s.runs codes s.tracks s.connections row c.other-h.result c.other-h.ensures c.loop-i.invariant.1 test))

pub loop-stage-preserved : goal.loop-stage-preserved
loop-stage-preserved c =
    let s = c.args.table.now in let g = table_grid s.runs s.tracks s.connections in
    let end : c.loop-i.i ≡ s.connections = omega arith in
    let e = ap (λ i. places_before g (row_of c.loop-stage.stage i)) end ∙ sym (before_wrap g c.loop-stage.stage) in
    (c.loop-i.invariant.0 ∙ ap length e, subst (Quiet c.args.codes.now) e c.loop-i.invariant.1)

pub returns : goal.returns
returns c =
    let s = c.args.table.now in
    let e = before_end (table_grid s.runs s.tracks s.connections) c.loop-stage.stage (omega arith) in
    (subst (Quiet c.args.codes.now) e c.loop-stage.invariant.1, c.loop-stage.invariant.0 ∙ ap length e)
