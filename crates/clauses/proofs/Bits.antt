-- The code that variables spell, and the clause that forbids it. Assumes nothing.
use mathlib.Core.Path.{◌≡◌, refl, sym, ap, ◌∙◌}
use mathlib.Core.Bool.{Bool, true, false, ◌||◌, not, cond}
use mathlib.Core.List.{[], ◌∷◌}
use Prim.Native.Nat.{ℕ, zero, suc, ◌+◌, ◌*◌, ◌/◌, ◌^◌, ◌<◌}
use native.Mathlib.Omega.{arith}
use native.Mathlib.Nat.{pow-succ'}
use Rattle.facts.specs.Odd.{odd, bit_of}
use Rattle.facts.proofs.Bools.{neither}
use Rattle.facts.proofs.Odd.{bit_odd, odd_bit}
use Rattle.dimacs.specs.Clause.{is_true, makes}
use Rattle.clauses.specs.Clauses.{forbid}
use Rattle.clauses.proofs.Joins.{makes-append, bit_le}

-- the code that k variables from v on spell, the highest bit first
unfoldable pub code_at : (ℕ → Bool) → ℕ → ℕ → ℕ
code_at σ v zero = 0
code_at σ v (suc k) = code_at σ v k * 2 + bit_of (σ (v + k))

agree : (b s : Bool) → cond b (not s) s ≡ false → b ≡ s
agree true true h = refl
agree true false h = h
agree false true h = sym h
agree false false h = refl

differ : (b s : Bool) → b ≡ s → cond b (not s) s ≡ false
differ true true h = refl
differ true false h = h
differ false true h = sym h
differ false false h = refl

module _ (σ : ℕ → Bool) where
  -- the clause is false exactly if the variables spell the code
  pub unmade : (k v c : ℕ) → c < 2 ^ k → makes σ (forbid k v c) ≡ false → code_at σ v k ≡ c
  unfolding makes forbid code_at is_true
  unmade zero v c l h = omega arith
  unmade (suc k) v c l h =
      let s = makes-append σ (forbid k v (c / 2)) (record { variable = v + k; negated = odd c } ∷ []) in
      let both : (makes σ (forbid k v (c / 2)) || ((cond (odd c) (not (σ (v + k))) (σ (v + k))) || false)) ≡ false = sym s ∙ h in
      let p = pow-succ' 2 k in
      let n = neither _ _ both in
      let up = unmade k v (c / 2) (omega arith) n.0 in
      let e = agree (odd c) (σ (v + k)) (neither _ _ n.1).0 in
      let d = bit_odd c in
      let f : bit_of (odd c) ≡ bit_of (σ (v + k)) = ap bit_of e in
      omega arith

  pub spelt : (k v c : ℕ) → code_at σ v k ≡ c → makes σ (forbid k v c) ≡ false
  unfolding makes forbid code_at is_true
  spelt zero v c h = refl
  spelt (suc k) v c h =
      let b = bit_le (σ (v + k)) in
      let up = spelt k v (c / 2) (omega arith) in
      let e = differ (odd c) (σ (v + k)) (odd_bit c (σ (v + k)) (omega arith)) in
      makes-append σ (forbid k v (c / 2)) (record { variable = v + k; negated = odd c } ∷ []) ∙ (λ i. up i || (e i || false))

  pub code_at_lt : (k v : ℕ) → code_at σ v k < 2 ^ k
  unfolding code_at
  code_at_lt zero v = omega arith
  code_at_lt (suc k) v = let p = pow-succ' 2 k in let b = bit_le (σ (v + k)) in let ih = code_at_lt k v in omega arith
