-- A line has at most the bytes that were lent for it, so it is a part of them. Assumes nothing.
use mathlib.Core.Path.{◌≡◌, sym, subst}
use mathlib.Core.List.{List}
use Prim.Native.Nat.{ℕ, ◌≤◌}
use native.Mathlib.Omega.{arith}
use lib.ListN.{length}
use lib.Seq.{length-take-le, length-sets}
use Rattle.lines.specs.Lined.{line_text}
use Rattle.lines.specs.Writes.{WrittenLine}
use Rattle.lines.proofs.Short.{line_short}
use Rattle.replies.proofs.say_line.Goals as goal

written_fits : (f : List ℕ) (n : ℕ) (old new : List ℕ) (k : ℕ) → WrittenLine f n old new k → k ≤ length new
written_fits f n old new k w =
    let short = line_short w.job w.of_file.valid.limits.t_high n in
    let room = w.room in
    let next = w.wrote.next in
    let long = subst (λ (l : List ℕ). length l ≡ length old) (sym w.wrote.is) (length-sets old 0 (line_text w.job n)) in
    omega arith

pub slice_bounds-line-end-in-Ok : goal.slice_bounds-line-end-in-Ok
slice_bounds-line-end-in-Ok c = written_fits _ _ _ _ _ c.in-Ok.ensures

pub slice_bounds-write_all-end : goal.slice_bounds-write_all-end
slice_bounds-write_all-end c = sym (length-take-le _ _ (written_fits _ _ _ _ _ c.in-Ok.ensures))
