-- A number's lowest bit, as a test and as a number. Assumes nothing.
use mathlib.Core.Path.{◌≡◌, sym}
use mathlib.Core.Bool.{Bool, true, false}
use Prim.Native.Nat.{ℕ, ◌+◌, ◌*◌, ◌/◌, ◌%◌}
use native.Mathlib.Omega.{arith}
use borrow.Author.Tests.{eqb-true, eqb-false, eq-eqb, ne_eqb}
use Rattle.facts.specs.Odd.{odd, bit_of}
use Rattle.facts.proofs.Bools.{whether, one_most}

pub bit_odd : (n : ℕ) → bit_of (odd n) ≡ n % 2
bit_odd n = whether (odd n) (λ h. rw h (sym (eqb-true (n % 2) 1 h))) (λ h. rw h (let e = eqb-false (n % 2) 1 h in omega arith))

pub odd_bit : (n : ℕ) (b : Bool) → n % 2 ≡ bit_of b → odd n ≡ b
odd_bit n true h = eq-eqb (n % 2) 1 h
odd_bit n false h = ne_eqb (n % 2) 1 (λ e. omega arith)

-- a number put together from the others and the lowest bit, and taken apart
pub half_of : (n : ℕ) (b : Bool) → (n * 2 + bit_of b) / 2 ≡ n
half_of n b = let m = one_most b in omega arith

pub odd-of : (n : ℕ) (b : Bool) → odd (n * 2 + bit_of b) ≡ b
odd-of n b = odd_bit (n * 2 + bit_of b) b (let m = one_most b in omega arith)

pub made_of : (n : ℕ) → n / 2 * 2 + bit_of (odd n) ≡ n
made_of n = let e = bit_odd n in omega arith
