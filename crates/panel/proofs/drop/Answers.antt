-- `panel::drop` meets its contract: a number that is absent, and else the list without the connection.
use mathlib.Core.Path.{refl, subst, ◌∙◌}
use Prim.Native.Nat.{ℕ}
use Rattle.std.proofs.lemmas.Result.{err_from_is_err_and}
use Rattle.loads.specs.Edits.{drop, edited, accepted}
use Rattle.loads.proofs.Rows.{absent, accepted_passes}
use Rattle.state.specs.State.{n_in, list_in}
use Rattle.panel.specs.Does.{Relisted}
use Rattle.panel.proofs.Tests.{refused, there_is}
use Rattle.panel.proofs.drop.Goals as goal

pub returns-in_err-i : goal.returns-in_err-i
returns-in_err-i c =
    let n = c.count-m in
    let a = c.args in
    let s = a.state.now in
    let w = c.in_err-i.ensures in
    let p = err_from_is_err_and c.from_residual.result c.from_residual.ensures.1 in
    rw (p.1, p.2) (refused _ w.1 (absent (n_in s) (list_in s) a.number (there_is s n.result n.ensures.0 a.number ∙ w.0)), refl)

pub returns : goal.returns
unfolding accepted
returns c =
    let n = c.count-m in
    let a = c.args in
    let s = a.state.now in
    let w = c.in_ok-i.ensures in (
      accepted_passes (n_in s) (list_in s) (drop a.number) (there_is s n.result n.ensures.0 a.number ∙ w.0),
      subst (λ (k : ℕ). Relisted s (edited (drop k) (list_in s)) c.remove.new.state) w.1 (c.remove.ensures n.ensures.0),
    )
