-- `panel::add` meets its contract: the two rows in their order, and else the list with one more.
use mathlib.Core.Path.{refl, ap, subst, ◌∙◌}
use Prim.Native.Nat.{ℕ, ◌+◌}
use borrow.Author.Tests.{lt-ltb, le-ltb}
use Rattle.std.proofs.lemmas.Result.{err_from_is_err_and}
use Rattle.facts.proofs.Bools.{and_both}
use Rattle.refusals.specs.Table.{Refuses}
use Rattle.channel.specs.Limits.{most_connections}
use Rattle.channel.specs.Channel.{Connection}
use Rattle.loads.specs.Edits.{Edit, add, edited, edit_rows, accepted}
use Rattle.loads.proofs.Rows.{full, bad, accepted_passes}
use Rattle.state.specs.State.{n_in, list_in}
use Rattle.panel.specs.Does.{Relisted}
use Rattle.panel.proofs.Tests.{refused, size_is, room_is}
use Rattle.panel.proofs.add.Goals as goal

pub returns-then-m-ge-MOST_CONNECTIONS : goal.returns-then-m-ge-MOST_CONNECTIONS
returns-then-m-ge-MOST_CONNECTIONS c =
    let n = c.count-m in
    let a = c.args in
    let s = a.state.now in
    (refused _ c.at.ensures (full (n_in s) (list_in s) (record { left = a.left; right = a.right; mark = a.mark }) (room_is s n.result n.ensures.0 ∙ le-ltb n.result most_connections c.if-m-ge-MOST_CONNECTIONS.true)), refl)

pub returns-in_err-columns : goal.returns-in_err-columns
returns-in_err-columns c =
    let n = c.count-m in
    let a = c.args in
    let s = a.state.now in
    let b : Connection = record { left = a.left; right = a.right; mark = a.mark } in
    let w = c.in_err-columns.ensures in
    let p = err_from_is_err_and c.from_residual.result c.from_residual.ensures.1 in
    let room = room_is s n.result n.ensures.0 ∙ lt-ltb n.result most_connections c.if-m-ge-MOST_CONNECTIONS.false in
    rw (p.1, p.2) (refused _ w.1 (subst (λ (k : ℕ). Refuses (edit_rows (n_in s) (list_in s) (add b)) 5 k) (ap (λ (k : ℕ). k + 1) (size_is s n.result n.ensures.0)) (bad (n_in s) (list_in s) b room w.0)), refl)

pub returns : goal.returns
unfolding accepted
returns c =
    let n = c.count-m in
    let a = c.args in
    let s = a.state.now in
    let w = c.in_ok-columns.ensures in
    let room = room_is s n.result n.ensures.0 ∙ lt-ltb n.result most_connections c.if-m-ge-MOST_CONNECTIONS.false in (
      accepted_passes (n_in s) (list_in s) (add (record { left = a.left; right = a.right; mark = a.mark })) (and_both room w.0),
      subst (λ (e : Edit). Relisted s (edited e (list_in s)) c.append.new.state) (λ i. add (record { left = w.1 i; right = w.2 i; mark = a.mark })) (c.append.ensures n.ensures.0),
    )
