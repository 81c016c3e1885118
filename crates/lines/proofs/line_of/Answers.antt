-- Line 0 is the header with the counted clauses. Any other line is the clause at the place with the number before it; a number behind the last is above C.
use mathlib.Core.Path.{refl}
use Prim.Native.Nat.{◌-◌}
use native.Mathlib.Omega.{arith}
use Rattle.places.specs.Table.{table_grid}
use Rattle.places.proofs.Sizes.{few_codes}
use Rattle.places.proofs.Places.{length_places, place-within}
use Rattle.lines.proofs.Lines.{zeroth, found}
use Rattle.lines.proofs.line_of.Goals as goal

pub returns-then-n-eq0 : goal.returns-then-n-eq0
returns-then-n-eq0 c =
    let s = c.args.table.now in
    zeroth s.runs s.tracks s.connections c.args.n _ c.size_of-w.result.top c.size_of-w.ensures c.args.buf.now c.put_header.new.buf c.count-c.result c.put_header.result c.if-n-eq0.true c.count-c.ensures.0 (rw c.from.ensures at c.put_header.ensures)

pub put_clause-requires-clause-within : goal.put_clause-requires-clause-within
put_clause-requires-clause-within c =
    let s = c.args.table.now in
    place-within (table_grid s.runs s.tracks s.connections) s.few_connections (few_codes s.tracks (omega (arith, s.few_tracks))) (c.args.n - 1) c.in-Ok.place c.in-Ok.ensures

pub returns-in-Ok : goal.returns-in-Ok
returns-in-Ok c =
    let s = c.args.table.now in
    found s.runs s.tracks s.connections c.args.n _ c.size_of-w.result.top c.size_of-w.ensures c.in-Ok.place c.if-n-eq0.false c.in-Ok.ensures c.args.buf.now c.put_clause.new.buf c.put_clause.result c.put_clause.ensures

pub returns-in-Err : goal.returns-in-Err
returns-in-Err c =
    let s = c.args.table.now in
    let e = length_places (table_grid s.runs s.tracks s.connections) in
    rw c.at.ensures ((refl, refl), (omega (arith, e, c.in-Err.ensures, c.if-n-eq0.false), refl))
