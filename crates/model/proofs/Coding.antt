-- The code that marks spell: bit by bit, below 2 ^ k, and the one that the clauses' variables spell. Assumes nothing.
use mathlib.Core.Path.{◌≡◌, refl, sym, ap}
use mathlib.Core.Bool.{Bool}
use mathlib.Core.List.{List}
use Prim.Native.Nat.{ℕ, zero, suc, ◌+◌, ◌*◌, ◌^◌, ◌≤◌, ◌<◌}
use native.Mathlib.Omega.{arith}
use native.Mathlib.Nat.{pow-succ'}
use native.Mathlib.Numerals.{add-one}
use lib.Pow.{pow_mono}
use Rattle.facts.specs.Odd.{bit_of}
use Rattle.channel.specs.Limits.{most_bits}
use Rattle.clauses.proofs.Joins.{bit_le}
use Rattle.clauses.proofs.Bits.{code_at}
use Rattle.model.specs.Codes.{set_in, code_from}

module _ (marks : List ℕ) (v : ℕ) where
  pub code_next : (k : ℕ) → code_from marks v (k + 1) ≡ code_from marks v k * 2 + bit_of (set_in marks (v + k))
  unfolding code_from
  code_next k = ap (code_from marks v) (add-one k)

  pub code_below : (k : ℕ) → code_from marks v k < 2 ^ k
  unfolding code_from
  code_below zero = omega arith
  code_below (suc k) = let p = pow-succ' 2 k in let b = bit_le (set_in marks (v + k)) in let ih = code_below k in omega arith

  -- one bit more has room in a byte
  pub code-room : (k : ℕ) → k < most_bits → code_from marks v k < 32
  code-room k l = let b = code_below k in let m = pow_mono {i = k} {j = 5} (omega arith) in omega arith

  -- values that agree with the marks spell the same code
  pub code_agrees : (σ : ℕ → Bool) (k : ℕ) → ((u : ℕ) → v ≤ u → u < v + k → σ u ≡ set_in marks u) → code_from marks v k ≡ code_at σ v k
  unfolding code_from code_at
  code_agrees σ zero h = refl
  code_agrees σ (suc k) h =
      let r = code_agrees σ k (λ u a b. h u a (omega arith)) in
      let e = h (v + k) (omega arith) (omega arith) in
      λ i. r i * 2 + bit_of (sym e i)
