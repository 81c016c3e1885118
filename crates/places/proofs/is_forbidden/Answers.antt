-- Stage 0, the codes that no track has, and those of the tracks.
use mathlib.Core.Path.{sym}
use Rattle.places.specs.Table.{shut, due}
use Rattle.places.proofs.Rows.{forbidden_0, forbidden_high}
use Rattle.places.proofs.is_forbidden.Goals as goal

pub returns-then-row-eq0 : goal.returns-then-row-eq0
returns-then-row-eq0 c =
    let a = c.args in let s = a.table.now in
    sym (forbidden_0 s.tracks (shut s.runs) (due s.runs) a.row.i a.c.0 a.row.stage c.if-row-eq0.true)

pub returns-then-table-c : goal.returns-then-table-c
returns-then-table-c c =
    let a = c.args in let s = a.table.now in
    sym (forbidden_high s.tracks (shut s.runs) (due s.runs) a.row.i a.c.0 a.row.stage c.if-row-eq0.false c.if-table-c.true)

pub returns : goal.returns
returns c = c.is_forbidden_on.ensures c.args.table.now.tracks c.if-table-c.false
