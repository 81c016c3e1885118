-- Laws of tests: two in one, two that say the same, and none both true and false. What the kit has is passed on under the house's names. Assumes nothing.
use mathlib.Core.Path.{◌≡◌, refl, sym, ◌∙◌}
use mathlib.Core.Bool.{Bool, true, false, ◌&&◌, ◌||◌, cond, false≢true}
use mathlib.Mathlib.Data.Bool.Basic.{or-eq-false-eq-eq-false-and-eq-false}
use mathlib.Core.Logic.{◌⊎◌, inl, inr}
use Prim.Native.Nat.{ℕ, ◌≤◌, ◌<◌}
use native.Mathlib.Omega.{arith}
use lib.Dec.{leb, ltb}
use borrow.Author.Tests.{leb-true, le-leb, ltb-true, ltb-false}
-- a fact that can be decided and cannot fail; each of two tests that both pass, and both of them; a test that cannot fail, and one that cannot pass
pub use mathlib.Core.HLevel.{dec→stable as sure}
pub use mathlib.Mathlib.Data.Bool.Basic.{and_elim_left as and_left, and_elim_right as and_right, and_intro as and_both, eq-true_of_not-eq-false as true-by, eq-false_of_not-eq-true as false-by}

-- both pass
pub both : (a b : Bool) → (a && b) ≡ true → (a ≡ true) × (b ≡ true)
both a b h = (and_left a b h, and_right a b h)

-- neither passes
pub neither : (a b : Bool) → (a || b) ≡ false → (a ≡ false) × (b ≡ false)
neither a b = (or-eq-false-eq-eq-false-and-eq-false a b).0

pub or-both : {a b : Bool} → a ≡ false → b ≡ false → (a || b) ≡ false
or-both {a} {b} h k = (or-eq-false-eq-eq-false-and-eq-false a b).1 (h, k)

-- two tests that are true of the same
pub iff : {a b : Bool} → (a ≡ true → b ≡ true) → (b ≡ true → a ≡ true) → a ≡ b
iff {a = true} f g = sym (f refl)
iff {a = false} {b = true} f g = g refl
iff {a = false} {b = false} f g = refl

pub leb_same : (p q r s : ℕ) → (p ≤ q → r ≤ s) → (r ≤ s → p ≤ q) → leb p q ≡ leb r s
leb_same p q r s f g = iff (λ h. le-leb r s (f (leb-true p q h))) (λ h. le-leb p q (g (leb-true r s h)))

-- a test passes or does not
pub whether : {A : Type 0} (b : Bool) → (b ≡ true → A) → (b ≡ false → A) → A
whether true f g = f refl
whether false f g = g refl

-- two numbers in their order
pub below : (a b : ℕ) → (a < b) ⊎ (b ≤ a)
below a b = whether (ltb a b) (λ e. inl (ltb-true a b e)) (λ e. inr (ltb-false a b e))

-- a test counted
pub one_most : (b : Bool) → cond b 1 0 ≤ 1
one_most true = omega arith
one_most false = omega arith

-- no test is both true and false
pub not-both : {A : Type 0} {b : Bool} → b ≡ true → b ≡ false → A
not-both p q = absurd (false≢true (sym q ∙ p))

-- two constructors are never equal: `never cc`, where `cc` finds them
pub never : {A : Type 0} → ◌≡◌ {A = ℕ} 0 1 → A
never e = absurd (omega arith)

-- one of two passes
pub either : (a b : Bool) → (a || b) ≡ true → (a ≡ true) ⊎ (b ≡ true)
either true b h = inl refl
either false b h = inr h

pub or-first : {a : Bool} (b : Bool) → a ≡ true → (a || b) ≡ true
or-first b h = (λ i. h i || b)

pub or_second : (a : Bool) {b : Bool} → b ≡ true → (a || b) ≡ true
or_second true h = refl
or_second false h = h

-- two tests that say the same where a first one passes
pub and_where : (a b c : Bool) → (a ≡ true → b ≡ c) → (a && b) ≡ (a && c)
and_where true b c h = h refl
and_where false b c h = refl
