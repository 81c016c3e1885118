-- The number of bits by doubling. Assumes nothing.
use mathlib.Core.Path.{◌≡◌, refl, sym, ap, ◌∙◌, subst}
use mathlib.Core.Logic.{⊎_elim}
use Prim.Native.Nat.{ℕ, ◌+◌, ◌*◌, ◌^◌, ◌≤◌, ◌<◌}
use native.Mathlib.Omega.{arith}
use native.Mathlib.Nat.{eq-or-lt_of_le, pow-succ'}
use native.Mathlib.Numerals.{add-one}
use lib.Pow.{pow_mono}
use Rattle.channel.specs.Limits.{most_bits, most_codes}
use Rattle.clauses.specs.Clauses.{bits_for}
use Rattle.clauses.proofs.Width.{bits_for_is}
use Rattle.places.specs.Places.{Sized}

-- no smaller number of bits will do
pub record Low (t w top : ℕ) : Type 0 where
  pub some : 1 ≤ w
  pub is : top ≡ 2 ^ w
  pub least : (v : ℕ) → 1 ≤ v → t ≤ 2 ^ v → w ≤ v

pub low_start : (t : ℕ) → Low t 1 2
low_start t = record { some = omega arith; is = refl; least = λ v o h. o }

pub low_next : (t w top : ℕ) → Low t w top → top < t → Low t (w + 1) (top * 2)
low_next t w top l h = record {
  some = omega arith;
  is = (let p = pow-succ' 2 w in let e = l.is in ap (λ k. k * 2) e ∙ omega arith) ∙ ap (λ k. 2 ^ k) (sym (add-one w));
  least = λ v o g.
      ⊎_elim
      (λ (e : w ≡ v). absurd (let i = l.is in let z = subst (λ k. t ≤ 2 ^ k) (sym e) g in omega arith))
      (λ (k : w < v). omega arith)
      (eq-or-lt_of_le (l.least v o g));
}

-- t codes within the limit need no more than the most bits, and have no more than the most codes
pub few_bits : (t : ℕ) → t ≤ most_codes → bits_for t ≤ most_bits
few_bits t h = (bits_for_is t).least most_bits (omega arith) h

pub few_codes : (t : ℕ) → t ≤ most_codes → 2 ^ bits_for t ≤ most_codes
few_codes t h = pow_mono {i = bits_for t} {j = most_bits} (few_bits t h)

pub low_done : (t w top : ℕ) → t ≤ most_codes → Low t w top → t ≤ top → Sized t w top
low_done t w top h l g =
    let b = bits_for_is t in
    let i = l.is in
    let up = l.least (bits_for t) b.some b.enough in
    let down = b.least w l.some (omega arith) in
    let e : w ≡ bits_for t = omega arith in
    let power = i ∙ ap (λ k. 2 ^ k) e in
    let few = few_bits t h in
    let most = few_codes t h in
    record { bits = e; power = power; few = omega arith; most = omega arith; room = g }
