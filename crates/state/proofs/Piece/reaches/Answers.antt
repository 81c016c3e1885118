use mathlib.Core.Path.{sym, subst, ◌∙◌}
use mathlib.Core.List.{List}
use Prim.Native.Nat.{ℕ, ◌+◌}
use native.Mathlib.Omega.{arith}
use Rattle.state.specs.Walks.{SetDown}
use Rattle.state.proofs.Walks.{reaches_none, reaches_skip, reaches_more}
use Rattle.state.proofs.Piece.reaches.Goals.{then-i-self+then-is_one_net, else-i-self, else-i-self-via-then-i-self+else-is_one_net, else-i-self-via-else-i-self}
use Rattle.state.proofs.Piece.reaches.Goals as goal

pub loop-i-init : goal.loop-i-init
loop-i-init c = let a = c.args in reaches_none a.state.now a.self.at a.left a.self.mark

pub loop-i-preserved : goal.loop-i-preserved
loop-i-preserved c =
    let l = c.loop-i in
    let a = c.args in
    let s = a.state.now in
    let k = a.self.mark in
    elim c.if-i-self.branch [
      | then-i-self+then-is_one_net w ↦
          subst (λ (q : List ℕ). SetDown s (l.i + 1) a.self.at a.left k q) (sym w.reach-is)
          (reaches_more s l.i a.self.at a.left k l.reach l.invariant w.max-y.result w.max.result (omega arith) (omega (arith, w.max.ensures)) (omega arith) w.if-i-self.true (sym w.is_one_net.ensures ∙ w.if-is_one_net.true))
      | else-i-self w ↦
          subst (λ (q : List ℕ). SetDown s (l.i + 1) a.self.at a.left k q) (sym w.reach-is)
          (reaches_skip s l.i a.self.at a.left k l.reach l.invariant (λ n. elim w.else-i-self.branch [
            | else-i-self-via-then-i-self+else-is_one_net v ↦ sym v.is_one_net.ensures ∙ v.if-is_one_net.false
            | else-i-self-via-else-i-self v ↦ absurd (n v.if-i-self.false)
          ]))
    ]
