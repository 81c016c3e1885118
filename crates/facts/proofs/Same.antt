-- `same` tells whether two lists of numbers are equal. Assumes nothing.
use mathlib.Core.Path.{◌≡◌, refl}
use mathlib.Core.Bool.{true}
use mathlib.Core.List.{List, [], ◌∷◌}
use Prim.Native.Nat.{ℕ}
use lib.Dec.{eqb}
use borrow.Author.Tests.{eqb-true, eq-eqb}
use Rattle.facts.specs.Same.{same}
use Rattle.facts.proofs.Bools.{both, not-both}

pub same_true : (xs ys : List ℕ) → same xs ys ≡ true → xs ≡ ys
unfolding same
same_true [] [] h = refl
same_true [] (y ∷ ys) h = not-both h refl
same_true (x ∷ xs) [] h = not-both h refl
same_true (x ∷ xs) (y ∷ ys) h = let g = both (eqb x y) (same xs ys) h in let e = eqb-true x y g.0 in let r = same_true xs ys g.1 in cc

pub same_refl : (xs : List ℕ) → same xs xs ≡ true
unfolding same
same_refl [] = refl
same_refl (x ∷ xs) = simp (eq-eqb x x refl) (same_refl xs)
