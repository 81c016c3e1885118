-- A turn reads what follows: the bytes before it stay, and what was read stands behind them. Assumes nothing.
use mathlib.Core.Path.{◌≡◌, refl, sym, ap, ◌∙◌}
use mathlib.Core.List.{List, ◌++◌, append_assoc}
use Prim.Native.Nat.{ℕ, ◌+◌, ◌-◌, ◌≤◌}
use native.Mathlib.Omega.{arith}
use lib.ListN.{length, take, drop, length-drop}
use borrow.Table.Elements.{take-le}
use lib.Seq.{length-take-le}
use borrow.Rule.Slice.PartMut.{put_mid, same_len_mid}
use Rattle.std.specs.Prelude.{Option, Some, None}
use Rattle.std.specs.Io.KnownBytes.{Consumes}
use Rattle.std.proofs.Math.Seq.{take-append-add}
use Rattle.std.proofs.lemmas.List.{take-append-le}
use Rattle.input.proofs.read_whole.Goals as goal

-- what is read after something else is read behind it
consumes_then : (a b c : Option (List ℕ)) (xs ys : List ℕ) → Consumes a b xs → Consumes b c ys → Consumes a c (xs ++ ys)
consumes_then None b c xs ys v w = tt
consumes_then (Some p) None c xs ys v w = absurd v
consumes_then (Some p) (Some q) None xs ys v w = absurd w
consumes_then (Some p) (Some q) (Some r) xs ys v w = rw (v, w, append_assoc) refl

-- the first a, and n of those that took the place of the next k
take_read : (a k n : ℕ) (xs ys : List ℕ) → a ≤ length xs → n ≤ length ys → take (a + n) (put_mid a k xs ys) ≡ take a xs ++ take n ys
take_read a k n xs ys h m =
    let e : length (take a xs) ≡ a = length-take-le a xs h in
    ap (λ (i : ℕ). take (i + n) (put_mid a k xs ys)) (sym e) ∙ take-append-add (take a xs) _ n ∙ ap (λ (z : List ℕ). take a xs ++ z) (take-append-le n ys _ m)

pub loop-done-preserved : goal.loop-done-preserved
loop-done-preserved g c =
    let l = c.loop-done in
    let n = c.in-Ok.n in
    let x = l.invariant in
    let b = c.in-Ok.ensures.bound.0 in
    let s = same_len_mid l.done (length l.buf - l.done) l.buf c.read.new.buf c.read.auto.buf in
    let t = take_read l.done (length l.buf - l.done) n l.buf c.read.new.buf x.0 b in
    (omega (arith, s, b, c.read.auto.buf, take-le (length l.buf - l.done) (drop l.done l.buf), length-drop l.done l.buf), s ∙ x.1, rw t (consumes_then (g.R.Read.remaining c.args.from.now) (g.R.Read.remaining l.from) (g.R.Read.remaining c.read.new.self) (take l.done l.buf) (take n c.read.new.buf) x.2 c.in-Ok.ensures.bytes.0))
