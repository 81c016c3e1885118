-- `panel::shift` meets its contract: the two rows in their order, and else the list with other columns.
use mathlib.Core.Path.{refl, subst, ◌∙◌}
use Rattle.facts.proofs.Bools.{and_both}
use Rattle.std.proofs.lemmas.Result.{err_from_is_err_and}
use Rattle.loads.specs.Edits.{Edit, move, edited, accepted}
use Rattle.loads.proofs.Rows.{bad_move, absent_move, accepted_passes}
use Rattle.state.specs.State.{n_in, list_in}
use Rattle.panel.specs.Does.{Relisted}
use Rattle.panel.proofs.Tests.{refused, there_is}
use Rattle.panel.proofs.shift.Goals as goal

pub returns-in_err-columns : goal.returns-in_err-columns
returns-in_err-columns c =
    let a = c.args in
    let s = a.state.now in
    let w = c.in_err-columns.ensures in
    let p = err_from_is_err_and c.from_residual.result c.from_residual.ensures.1 in
    rw (p.1, p.2) (refused _ w.1 (bad_move (n_in s) (list_in s) a.number a.left a.right w.0), refl)

pub returns-in_err-i : goal.returns-in_err-i
returns-in_err-i c =
    let n = c.count-m in
    let a = c.args in
    let s = a.state.now in
    let w = c.in_err-i.ensures in
    let p = err_from_is_err_and c.from_residual-in_err-i.result c.from_residual-in_err-i.ensures.1 in
    rw (p.1, p.2) (refused _ w.1 (absent_move (n_in s) (list_in s) a.number a.left a.right c.in_ok-columns.ensures.0 (there_is s n.result n.ensures.0 a.number ∙ w.0)), refl)

pub returns : goal.returns
unfolding accepted
returns c =
    let n = c.count-m in
    let a = c.args in
    let s = a.state.now in
    let v = c.in_ok-columns.ensures in
    let w = c.in_ok-i.ensures in (
      accepted_passes (n_in s) (list_in s) (move a.number a.left a.right) (and_both v.0 (there_is s n.result n.ensures.0 a.number ∙ w.0)),
      subst (λ (e : Edit). Relisted s (edited e (list_in s)) c.replace.new.state) (λ i. move (w.1 i) (v.1 i) (v.2 i)) (c.replace.ensures n.ensures.0),
    )
