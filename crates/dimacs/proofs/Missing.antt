-- Row 7: where no variable is too large or seen before, variables are missing exactly if there are fewer literals than variables. Assumes nothing.
use mathlib.Core.Path.{◌≡◌, refl, sym, ap, subst, ◌∙◌}
use mathlib.Core.Bool.{Bool, true, false, cond, ◌&&◌, ◌||◌}
use mathlib.Core.List.{List, [], ◌∷◌}
use Prim.Native.Nat.{ℕ, zero, suc, ◌+◌, ◌≤◌, ◌<◌}
use native.Mathlib.Omega.{arith}
use lib.Dec.{eqb, leb, ltb, leb-suc-suc}
use lib.ListN.{length}
use borrow.Author.Tests.{eqb-true, eqb-false, eq-eqb, le-leb, lt-leb, leb-true, leb-false, ltb-false}
use Rattle.facts.proofs.Bools.{both, or-both, not-both}
use Rattle.dimacs.specs.Reply.{every}
use Rattle.dimacs.specs.Model.{among}
use Rattle.dimacs.specs.Decision.{first_wrong, all_there}

-- all different, and within 1 to n
data Apart (n : ℕ) : List ℕ → Type 0 where
  no_more : Apart n []
  and_more : (v : ℕ) {vs : List ℕ} → 1 ≤ v → v ≤ n → among v vs ≡ false → Apart n vs → Apart n (v ∷ vs)

-- how many are at most k
up_to : ℕ → List ℕ → ℕ
up_to k [] = 0
up_to k (v ∷ vs) = cond (leb v k) 1 0 + up_to k vs

-- one number more: it is there or not
up_to_suc : {n : ℕ} (k : ℕ) {vs : List ℕ} → Apart n vs → up_to (suc k) vs ≡ up_to k vs + cond (among (suc k) vs) 1 0
unfolding up_to among
up_to_suc k no_more = omega arith
up_to_suc k (and_more v {vs = vs} o h d a) = go (leb v k) refl (eqb (suc k) v) refl (up_to_suc k a)
  where
    go : (x : Bool) → leb v k ≡ x → (y : Bool) → eqb (suc k) v ≡ y → up_to (suc k) vs ≡ up_to k vs + cond (among (suc k) vs) 1 0 → cond (leb v (suc k)) 1 0 + up_to (suc k) vs ≡ cond x 1 0 + up_to k vs + cond (y || among (suc k) vs) 1 0
    go true e true f i = let l = leb-true v k e in let m = eqb-true (suc k) v f in absurd (omega arith)
    go true e false f i = let l = leb-true v k e in simp (le-leb v (suc k) (omega arith)) (omega arith)
    go false e true f i =
        let m = eqb-true (suc k) v f in
        let z : among (suc k) vs ≡ false = subst (λ u. among u vs ≡ false) (sym m) d in
        let j : up_to (suc k) vs ≡ up_to k vs + 0 = rw z at i in
        simp (le-leb v (suc k) (omega arith)) (omega arith)
    go false e false f i =
        let l = leb-false v k e in
        let m = eqb-false (suc k) v f in
        simp (lt-leb v (suc k) (above v k l m)) (omega arith)
      where
        above : (v k : ℕ) → k < v → (suc k ≡ v → ⊥) → suc k < v
        above v k l m = omega arith

up_to_zero : {n : ℕ} {vs : List ℕ} → Apart n vs → up_to 0 vs ≡ 0
unfolding up_to
up_to_zero no_more = refl
up_to_zero (and_more v {vs = vs} o h d a) = let i = up_to_zero a in simp (lt-leb v 0 (omega arith)) (omega arith)

up_to_all : {n : ℕ} {vs : List ℕ} → Apart n vs → up_to n vs ≡ length vs
unfolding up_to
up_to_all no_more = refl
up_to_all {n} (and_more v o h d a) = let i = up_to_all a in simp (le-leb v n h) (omega arith)

-- at most k, and k exactly if each of 1 to k is there
there : {n : ℕ} {vs : List ℕ} → Apart n vs → (k : ℕ) → (up_to k vs ≤ k) × (all_there k vs ≡ leb k (up_to k vs))
unfolding all_there
there {vs = vs} a zero = let z = up_to_zero a in (omega arith, sym (le-leb 0 (up_to 0 vs) (omega arith)))
there {vs = vs} a (suc k) = go (among (suc k) vs) refl (there a k) (up_to_suc k a)
  where
    go : (x : Bool) → among (suc k) vs ≡ x → (up_to k vs ≤ k) × (all_there k vs ≡ leb k (up_to k vs)) → up_to (suc k) vs ≡ up_to k vs + cond (among (suc k) vs) 1 0 → (up_to (suc k) vs ≤ suc k) × ((x && all_there k vs) ≡ leb (suc k) (up_to (suc k) vs))
    go true e i j =
        let g : up_to (suc k) vs ≡ up_to k vs + 1 = rw e at j in
        let m : up_to (suc k) vs ≡ suc (up_to k vs) = omega arith in
        (omega arith, i.1 ∙ sym (rw m (leb-suc-suc k (up_to k vs))))
    go false e i j =
        let g : up_to (suc k) vs ≡ up_to k vs + 0 = rw e at j in
        (omega arith, sym (lt-leb (suc k) (up_to (suc k) vs) (omega arith)))

-- what no refusal at a position says
first_right : (n i : ℕ) (seen : List ℕ) (v : ℕ) (vs : List ℕ) → first_wrong n seen (suc i) (v ∷ vs) ≡ 0 → (v ≤ n) × (among v seen ≡ false) × (first_wrong n (v ∷ seen) (suc (suc i)) vs ≡ 0)
unfolding first_wrong
first_right n i seen v vs = go (ltb n v) refl (among v seen) refl
  where
    go : (x : Bool) → ltb n v ≡ x → (y : Bool) → among v seen ≡ y → cond (x || y) (suc i) (first_wrong n (v ∷ seen) (suc (suc i)) vs) ≡ 0 → (v ≤ n) × (among v seen ≡ false) × (first_wrong n (v ∷ seen) (suc (suc i)) vs ≡ 0)
    go true e y f h = absurd (omega arith)
    go false e true f h = absurd (omega arith)
    go false e false f h = (ltb-false n v e, f, h)

-- what was seen does not come again
unseen : (n i : ℕ) (seen vs : List ℕ) → first_wrong n seen (suc i) vs ≡ 0 → (u : ℕ) → among u seen ≡ true → among u vs ≡ false
unfolding among
unseen n i seen [] h u m = refl
unseen n i seen (v ∷ vs) h u m = let g = first_right n i seen v vs h in or-both (differs (eqb u v) refl g.1) (unseen n (suc i) (v ∷ seen) vs g.2 u (or_right (eqb u v) m))
  where
    differs : (x : Bool) → eqb u v ≡ x → among v seen ≡ false → x ≡ false
    differs true e f = not-both refl (sym (subst (λ z. among z seen ≡ true) (eqb-true u v e) m) ∙ f)
    differs false e f = refl

    or_right : (x : Bool) → among u seen ≡ true → (x || among u seen) ≡ true
    or_right true e = refl
    or_right false e = e

apart_of : (n i : ℕ) (seen vs : List ℕ) → every (leb 1) vs ≡ true → first_wrong n seen (suc i) vs ≡ 0 → Apart n vs
unfolding every among
apart_of n i seen [] p h = no_more
apart_of n i seen (v ∷ vs) p h =
    let q = both (leb 1 v) (every (leb 1) vs) p in
    let g = first_right n i seen v vs h in
    and_more v (leb-true 1 v q.0) g.0 (unseen n (suc i) (v ∷ seen) vs g.2 v (simp (eq-eqb v v refl))) (apart_of n (suc i) (v ∷ seen) vs q.1 g.2)

-- variables are missing exactly if there are fewer literals than variables
pub missing : (n : ℕ) (vs : List ℕ) → every (leb 1) vs ≡ true → first_wrong n [] 1 vs ≡ 0 → all_there n vs ≡ leb n (length vs)
missing n vs p h = let a = apart_of n 0 [] vs p h in (there a n).1 ∙ ap (leb n) (up_to_all a)

-- and there are no more literals than variables
pub at_most : (n : ℕ) (vs : List ℕ) → every (leb 1) vs ≡ true → first_wrong n [] 1 vs ≡ 0 → length vs ≤ n
at_most n vs p h = let a = apart_of n 0 [] vs p h in subst (λ k. k ≤ n) (up_to_all a) (there a n).0
