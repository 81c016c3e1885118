-- One of the first n that passes. Assumes nothing.
use mathlib.Core.Path.{◌≡◌, ap, ◌∙◌}
use mathlib.Core.Bool.{Bool, true, ◌||◌, or-true}
use Prim.Native.Nat.{ℕ, zero, suc, ◌<◌}
use native.Mathlib.Nat.{not-suc-le-zero}
use native.Mathlib.Omega.{arith}
use native.Mathlib.Decide.{dec_lt}
use Rattle.facts.proofs.Bools.{whether, never}
use Rattle.channel.specs.Channel.{any_to}

pub any_at : (f : ℕ → Bool) (n k : ℕ) → k < n → f k ≡ true → any_to f n ≡ true
unfolding any_to
any_at f zero k l h = absurd (not-suc-le-zero l)
any_at f (suc n) k l h = go (λ m. any_at f n k m h) (dec_lt k n)
  where
    go : (k < n → any_to f n ≡ true) → Dec (k < n) → (any_to f n || f n) ≡ true
    go r (yes m) = (λ i. r m i || f n)
    go r (no m) = let e : n ≡ k = omega arith in (λ i. any_to f n || (ap f e ∙ h) i) ∙ or-true (any_to f n)

pub any_some : (f : ℕ → Bool) (n : ℕ) → any_to f n ≡ true → (k : ℕ) × (k < n) × (f k ≡ true)
unfolding any_to
any_some f zero h = never cc
any_some f (suc n) h = whether (any_to f n) (λ e. let r = any_some f n e in (r.0, omega (arith, r.1), r.2)) (λ e. (n, omega arith, rw e at h))
