use mathlib.Core.Logic.{inl, inr}
use Rattle.std.proofs.lemmas.Bool.Decides.{eqb_tells}
use Rattle.jobfile.proofs.Laws.{rising_step, rising_stop, rising_end}
use Rattle.jobfile.proofs.rising_to.Goals as goal

pub returns-then-end-last : goal.returns-then-end-last
returns-then-end-last c = let l = c.loop-end in
    λ r. rising_stop c.args.ends.now c.args.n l.last l.end-index c.loop-end-test.true c.if-end-last.true (l.invariant.1 r)

pub loop-end-preserved : goal.loop-end-preserved
loop-end-preserved c = let l = c.loop-end in
    let e = rising_step c.args.ends.now c.args.n l.last l.end-index c.loop-end-test.true c.if-end-last.false in
    (λ r. l.invariant.0 (e.1 r), λ r. e.0 (l.invariant.1 r))

pub returns : goal.returns
returns c = let l = c.loop-end in
    let e = rising_end c.args.ends.now c.args.n l.last l.end-index c.loop-end-test.false in
    elim (eqb_tells l.last c.args.n) [ inl h ↦ rw h.0 (l.invariant.0 (e.1 h.1)) | inr h ↦ rw h.0 (λ r. h.1 (e.0 (l.invariant.1 r))) ]
