-- w is the least whole number with 2 ^ w ≥ T, but at least 1. Assumes nothing.
use mathlib.Core.Path.{◌≡◌, refl, sym, subst, ◌∙◌}
use mathlib.Core.Logic.{⊎_elim}
use mathlib.Core.Bool.{Bool, true, false, cond}
use Prim.Native.Nat.{ℕ, zero, suc, ◌+◌, ◌*◌, ◌^◌, ◌≤◌, ◌<◌}
use native.Mathlib.Omega.{arith}
use native.Mathlib.Nat.{eq-or-lt_of_le, pow-succ', add-zero, add-suc, suc-add, add_comm, mul-le-mul}
use native.Mathlib.Numerals.{add-one}
use lib.Dec.{leb}
use borrow.Author.Tests.{leb-true, leb-false}
use Rattle.channel.specs.Limits.{most_connections, most_bits, most_variables}
use Rattle.channel.specs.Channel.{Job, T}
use Rattle.clauses.specs.Clauses.{Width, seek, bits_for, width}

pow_big : (n : ℕ) → n < 2 ^ n
pow_big zero = omega arith
pow_big (suc n) = let p = pow-succ' 2 n in let ih = pow_big n in omega arith

seek_is : (more w t : ℕ) → 1 ≤ w → t ≤ 2 ^ (w + more) → ((v : ℕ) → 1 ≤ v → t ≤ 2 ^ v → w ≤ v) → Width t (seek more w t)
unfolding seek
seek_is zero w t s e l = record { some = s; enough = subst (λ n. t ≤ 2 ^ n) (add-zero w) e; least = l }
seek_is (suc more) w t s e l = go (leb t (2 ^ w)) refl (seek_is more (suc w) t (omega arith) (subst (λ n. t ≤ 2 ^ n) (add-suc w more ∙ sym (suc-add w more)) e))
  where
    go : (b : Bool) → leb t (2 ^ w) ≡ b → (((v : ℕ) → 1 ≤ v → t ≤ 2 ^ v → suc w ≤ v) → Width t (seek more (suc w) t)) → Width t (cond b w (seek more (suc w) t))
    go true h f = record { some = s; enough = leb-true t (2 ^ w) h; least = l }
    go false h f = f (λ v o g.
        ⊎_elim (λ (q : w ≡ v). absurd (let n = leb-false t (2 ^ w) h in let g' = subst (λ x. t ≤ 2 ^ x) (sym q) g in omega arith)) (λ (k : w < v). k) (eq-or-lt_of_le (l v o g)))

pub bits_for_is : (t : ℕ) → Width t (bits_for t)
unfolding bits_for
bits_for_is t = seek_is t 1 t (omega arith) (let a = pow_big t in let p = pow-succ' 2 t in rw add_comm (rw add-one (omega arith))) (λ v o g. o)

-- V within its limit
pub variables_few : (m w : ℕ) → m ≤ most_connections → w ≤ most_bits → m * w ≤ most_variables
variables_few m w a b = mul-le-mul {n₁ = m} {m₁ = w} {n₂ = most_connections} {m₂ = most_bits} a b

pub width_least : (j : Job) → Width (T j) (width j)
width_least j = bits_for_is (T j)
