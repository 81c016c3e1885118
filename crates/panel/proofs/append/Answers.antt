-- `panel::append` meets its contract: the loads of its columns are turned, then its bytes and the number are written (proofs/Adding.antt).
use mathlib.Core.Bool.{◌&&◌, not}
use native.Mathlib.Omega.{arith}
use Rattle.state.specs.Walks.{in_span, other_over}
use Rattle.state.proofs.Walks.{turned_same}
use Rattle.panel.proofs.Adding.{added}
use Rattle.panel.proofs.append.Goals as goal

pub returns : goal.returns
returns c size =
    let a = c.args in
    let s = a.state.now in
    let w = c.span.ensures in
    added s c.turn_span.new.state a.m a.columns.left a.columns.right a.mark (omega arith) size (omega arith)
    (turned_same c.turn_span.ensures (λ x low. (λ i. in_span (w.0 i) (w.1 i) x && not (other_over s a.m a.m a.mark x))))
