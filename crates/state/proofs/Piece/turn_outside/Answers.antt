-- `state::Piece::turn_outside` meets its contract: the columns before the other span, then those behind it.
use native.Mathlib.Omega.{arith}
use Rattle.state.proofs.Outside.{turned_outside}
use Rattle.state.proofs.Piece.turn_outside.Goals as goal

pub returns : goal.returns
returns c =
    let a = c.args in
    let p = a.self in
    turned_outside a.state.now c.turn_span.new.state c.turn_span-2.new.state p.of p.at p.mark a.span.from a.span.to a.out.from a.out.to c.min.result c.max.result (omega arith) (omega arith) c.min.ensures c.max.ensures c.turn_span.ensures c.turn_span-2.ensures
