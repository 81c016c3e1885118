use mathlib.Core.Path.{◌≡◌, sym, ap, ◌∙◌}
use native.Mathlib.Omega.{arith}
use lib.ListN.{length, length-append}
use Rattle.places.specs.Places.{row_of, row_places, places_before}
use Rattle.places.specs.Table.{table_grid}
use Rattle.places.proofs.Rows.{before-first, before_next, before_wrap, before_end, row_count}
use Rattle.places.proofs.seek.Goals as goal
use Rattle.places.proofs.seek.Goals.{After-count_to-here}

-- the row's places were counted
here : (w : After-count_to-here) → let s = w.args.table.now in w.count_to-here.result ≡ length (row_places (table_grid s.runs s.tracks s.connections) (row_of w.loop-stage.stage w.loop-i.i))
here w = let s = w.args.table.now in row_count s.runs s.tracks (row_of w.loop-stage.stage w.loop-i.i) s.connections w.size_of-size.result.top w.count_to-here.result w.size_of-size.ensures.power w.count_to-here.ensures.0

pub loop-stage-init : goal.loop-stage-init
loop-stage-init c = let s = c.args.table.now in let e = ap length (before-first (table_grid s.runs s.tracks s.connections)) in omega arith

pub returns-then-rest-here : goal.returns-then-rest-here
returns-then-rest-here c =
    let e = here (goal.at.returns-then-rest-here c).After-count_to-here in
    record { stage = omega arith; inside = omega arith; passed = c.loop-i.invariant; short = omega (arith, e, c.if-rest-here.true) }

pub loop-i-preserved : goal.loop-i-preserved
loop-i-preserved c =
    let s = c.args.table.now in let g = table_grid s.runs s.tracks s.connections in
    let e = here (goal.at.loop-i-preserved c).After-count_to-here in
    let p = ap length (before_next g c.loop-stage.stage c.loop-i.i) ∙ length-append (places_before g (row_of c.loop-stage.stage c.loop-i.i)) (row_places g (row_of c.loop-stage.stage c.loop-i.i)) in
    omega (arith, p, e, c.loop-i.invariant, c.if-rest-here.false)

pub loop-stage-preserved : goal.loop-stage-preserved
loop-stage-preserved c =
    let s = c.args.table.now in let g = table_grid s.runs s.tracks s.connections in
    let e : c.loop-i.i ≡ s.connections = omega arith in
    let w = ap length (before_wrap g c.loop-stage.stage) ∙ ap (λ k. length (places_before g (row_of c.loop-stage.stage k))) (sym e) in
    omega (arith, w, c.loop-i.invariant)

pub returns : goal.returns
returns c =
    let s = c.args.table.now in
    let e = ap length (before_end (table_grid s.runs s.tracks s.connections) c.loop-stage.stage (omega arith)) in
    omega (arith, e, c.loop-stage.invariant)
