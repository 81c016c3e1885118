-- `route_panel`: the bytes of the list are those of its connections (proofs/Panels.antt).
use native.Mathlib.Omega.{arith}
use Rattle.editor.proofs.Panels.{routes_list}
use Rattle.editor.proofs.route_panel.Goals as goal

pub returns : goal.returns
returns c =
    let a = c.args in
    let r = c.route_list in
    record {
      other = λ g. absurd (g c.if-not-is_p1.ensures);
      same = λ g. routes_list a.state.now c.count.result a.limit a.budget a.labels.now r.new.labels r.result (omega (arith, c.count.ensures.1)) c.count.ensures.0 r.ensures;
    }
