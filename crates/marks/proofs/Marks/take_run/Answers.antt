-- `take_run`: the marks of the run get the owner.
use mathlib.Core.Path.{◌≡◌, sym, ap, ◌∙◌}
use Prim.Native.Nat.{ℕ, ◌+◌, ◌-◌, ◌≤◌}
use native.Mathlib.Omega.{arith}
use lib.ListN.{length, replicate, length-replicate}
use lib.Seq.{paste}
use Rattle.std.proofs.lemmas.List.Edits.{length-between}
use Rattle.std.proofs.lemmas.Slice.{put_mid-paste}
use Rattle.marks.specs.Marking.{base, taken_run}
use Rattle.marks.proofs.Laws.{fill_paste}
use Rattle.marks.proofs.Marks.take_run.Goals as goal

pub returns : goal.returns
unfolding taken_run
returns c =
    let a = c.args in
    let marks = a.self.now.0 in
    let at = base a.label.0 + a.first in
    let n = a.last + 1 - a.first in
    let s = c.requires.0.short c.requires.1 in
    let b = c.base_of-base.ensures in
    let start = c.base_of-base.result + a.first in
    let end = c.base_of-base.result + a.last + 1 in
    let from : start ≡ at = omega (arith, b.0) in
    let to : end - start ≡ n = omega arith in
    let long : end ≤ length marks = omega (arith, b.1, s) in
    let filled : c.fill.new.self ≡ replicate n a.owner = c.fill.ensures.after (λ y e. e) ∙ ap (λ (k : ℕ). replicate k a.owner) (length-between marks start end long ∙ to) in
    put_mid-paste start (end - start) marks c.fill.new.self (replicate n a.owner) n filled (sym to) (sym (length-replicate n a.owner))
    ∙ ap (λ (x : ℕ). paste marks x (replicate n a.owner) n) from
    ∙ sym (fill_paste a.owner marks at n (omega (arith, b.0, b.1, s)))
