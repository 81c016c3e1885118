use mathlib.Core.Path.{◌≡◌, sym, ap, subst, ◌∙◌}
use mathlib.Core.Bool.{Bool, ◌&&◌, not, and-true}
use mathlib.Core.List.{List}
use Prim.Native.Nat.{ℕ, ◌+◌, ◌-◌}
use native.Mathlib.Omega.{arith}
use lib.Dec.{ltb}
use Rattle.facts.proofs.Bools.{and_where}
use Rattle.state.specs.Walks.{in_span, other_over, furthest, Turned}
use Rattle.state.proofs.Walks.{span_says, span_is, span_behind, span_empty, span_next, span_first, span_none, furthest_more, turned_none, turned_same, turned_more}
use Rattle.state.proofs.Covers.{over-furthest, alone_over}
use Rattle.state.proofs.Free.{free, free_none, free_stays, free_turned}
use Rattle.state.proofs.Piece.turn_span.Goals.{then-far-x, else-far-x}
use Rattle.state.proofs.Piece.turn_span.Goals as goal

pub returns-then-span-first : goal.returns-then-span-first
returns-then-span-first c =
    let a = c.args in
    turned_none _ a.way a.state.now (λ x low. ap (λ (b : Bool). b && not (other_over a.state.now a.self.of a.self.at a.self.mark x)) (span_none a.span.from a.span.to x low (omega arith)))

pub loop-x-init : goal.loop-x-init
loop-x-init c = turned_none _ c.args.way c.args.state.now (λ x low. span_empty c.max-first.result x)

pub loop-x-preserved : goal.loop-x-preserved
loop-x-preserved c =
    let l = c.loop-x in
    let first = c.max-first.result in
    turned_more l.invariant (in_span first (l.x + 1)) l.x (omega arith) (span_behind first l.x l.x (omega arith)) (λ y n. span_next first l.x y n) (span_is first (l.x + 1) l.x (omega arith) (omega arith)) (omega arith) c.turned.result c.turned.ensures

pub returns-then-net_of-eq0 : goal.returns-then-net_of-eq0
returns-then-net_of-eq0 c =
    let a = c.args in
    let l = c.loop-x in
    let s = a.state.now in
    let w = c.net_of.ensures in
    let end : l.x ≡ a.span.to = omega arith in
    turned_same (subst (λ (n : ℕ). Turned (in_span c.max-first.result n) a.way s l.state) end l.invariant) (λ x low.
    ap (λ (n : ℕ). in_span n a.span.to x) c.max-first.ensures
    ∙ span_first a.span.from a.span.to x low
    ∙ sym (ap (λ (b : Bool). in_span a.span.from a.span.to x && not b) (alone_over s a.self.of a.self.at a.self.mark x (omega arith)) ∙ and-true (in_span a.span.from a.span.to x)))

pub loop-x-2-init : goal.loop-x-2-init
unfolding furthest
loop-x-2-init c =
    let first = c.max-first.result in
    let r = c.reaches-reach.result in
    let z : first - first ≡ 0 = omega arith in
    record { reached = sym (ap (furthest r first) z); turned = free_none r first c.args.way c.args.state.now }

pub loop-x-2-preserved : goal.loop-x-2-preserved
loop-x-2-preserved c =
    let a = c.args in
    let l = c.loop-x-2 in
    let first = c.max-first.result in
    let r = c.reaches-reach.result in
    let far : c.max-far.result ≡ furthest r first (l.x + 1 - first) = omega (arith, furthest_more r first l.x (omega arith)) in
    record {
      reached = far;
      turned = elim c.if-far-x.branch [
        | then-far-x w ↦
            subst (λ (q : List ℕ). Turned (free r first (l.x + 1)) a.way a.state.now q) (sym w.state-is)
            (free_turned r first l.x c.max-far.result (omega arith) (omega arith) far l.invariant.turned (omega arith) (omega arith) w.turned-then-far-x.result w.turned-then-far-x.ensures)
        | else-far-x w ↦
            subst (λ (q : List ℕ). Turned (free r first (l.x + 1)) a.way a.state.now q) (sym w.state-is)
            (free_stays r first l.x c.max-far.result (omega arith) (omega arith) far l.invariant.turned (omega arith))
      ];
    }

pub returns : goal.returns
returns c =
    let a = c.args in
    let l = c.loop-x-2 in
    let s = a.state.now in
    let first = c.max-first.result in
    let r = c.reaches-reach in
    let over : ℕ → Bool = λ x. not (other_over s a.self.of a.self.at a.self.mark x) in
    let end : l.x ≡ a.span.to = omega arith in
    turned_same (subst (λ (n : ℕ). Turned (free r.result first n) a.way s l.state) end l.invariant.turned) (λ x low.
    and_where (in_span first a.span.to x) (ltb (furthest r.result first (x + 1 - first)) x) (over x) (λ w. over-furthest s a.self.of a.self.at first a.self.mark r.result r.ensures x low (span_says first a.span.to x w).0)
    ∙ ap (λ (b : Bool). b && over x) (ap (λ (n : ℕ). in_span n a.span.to x) c.max-first.ensures ∙ span_first a.span.from a.span.to x low))
