use mathlib.Core.Path.{◌≡◌, sym, ap, ◌∙◌}
use Prim.Native.Nat.{◌<◌}
use native.Mathlib.Omega.{arith}
use lib.ListN.{length}
use Rattle.scan.specs.Tally.{said_after, told_at_end}
use Rattle.scan.proofs.Marked.{reached_start, reached_bad, reached_line, reached_byte, arrive, finish}
use Rattle.scan.proofs.read.Goals as goal
use Rattle.scan.proofs.read.Goals.{then-b-eq10+in-Bad, then-b-eq10+in-Other, then-b-eq10+in_default, else-b-eq10}

pub loop-i-init : goal.loop-i-init
loop-i-init c = reached_start _ _

pub loop-i-preserved : goal.loop-i-preserved
loop-i-preserved c =
    let l = c.loop-i in
    let r = l.invariant in
    let here : l.i < length c.args.text.now = c.loop-i-test.true in
    let v = c.event-l.ensures in
    let k = c.mark_literal.ensures in
    let n = c.add.ensures in
    elim c.if-b-eq10.branch [
      | then-b-eq10+in-Bad w ↦ arrive r (reached_bad r here w.if-b-eq10.true (sym w.in-Bad.ensures)) v k n w.m-is w.number-is w.said-is
      | then-b-eq10+in-Other w ↦ arrive r (reached_line r here w.if-b-eq10.true (λ e. grind (arith, w.in-Other.ensures ∙ e))) v k n w.m-is w.number-is (w.said-is ∙ ap (said_after l.said) w.in-Other.ensures)
      | then-b-eq10+in_default w ↦ arrive r (reached_line r here w.if-b-eq10.true (λ e. w.in_default.not-Bad (w.ended.ensures ∙ e))) v k n w.m-is w.number-is (w.said-is ∙ w.after-said.ensures ∙ ap (said_after l.said) w.ended.ensures)
      | else-b-eq10 w ↦ arrive r (reached_byte r here w.if-b-eq10.false) v k n (w.m-is ∙ w.step-m.ensures) w.number-is w.said-is
    ]

pub returns : goal.returns
returns c =
    let l = c.loop-i in
    let e : l.i ≡ length c.args.text.now = omega arith in
    let a = c.at_end.ensures ∙ ap (λ n. told_at_end c.args.text.now l.m n l.number l.said l.tally) (sym e) in
    finish l.invariant e c.args.variables.few c.literal.ensures c.mark_literal-2.ensures a
