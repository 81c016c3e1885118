-- `panel::remove` meets its contract: the loads of its columns are turned, the gap is closed and the number is written (proofs/Dropping.antt).
use native.Mathlib.Omega.{arith}
use Rattle.panel.proofs.Dropping.{dropped}
use Rattle.panel.proofs.remove.Goals as goal

pub returns : goal.returns
returns c size =
    let a = c.args in
    dropped a.state.now c.turn_span.new.state c.close.new.state a.m a.i c.from.result c.from-2.result (omega arith) size (omega arith) (omega arith) c.from.ensures c.from-2.ensures c.turn_span.ensures c.close.ensures
