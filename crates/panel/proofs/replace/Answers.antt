-- `panel::replace` meets its contract: the loads of the columns that are left and of those that come are turned, and the columns are written (proofs/Moving.antt).
use mathlib.Core.Bool.{◌&&◌, not}
use native.Mathlib.Omega.{arith}
use Rattle.state.specs.State.{connection_in}
use Rattle.state.specs.Walks.{other_over}
use Rattle.state.proofs.Walks.{turned_same}
use Rattle.panel.proofs.Moving.{beside, shifted}
use Rattle.panel.proofs.replace.Goals as goal

pub returns : goal.returns
returns c size =
    let a = c.args in
    let s = a.state.now in
    let s₁ = c.turn_outside.new.state in
    let from = c.from-from.result in
    let to = c.max.result in
    let w = c.span-new.ensures in
    shifted s s₁ c.turn_outside-2.new.state a.m a.i a.columns.left a.columns.right from to (omega arith) size (omega arith) (omega arith) c.from-from.ensures (omega arith)
    (turned_same c.turn_outside.ensures (λ x low. (λ i. beside from to (w.0 i) (w.1 i) x && not (other_over s a.m a.i (connection_in s a.i).mark x))))
    (turned_same c.turn_outside-2.ensures (λ x low. (λ i. beside (w.0 i) (w.1 i) from to x && not (other_over s₁ a.m a.i (connection_in s a.i).mark x))))
