-- The marks say what was seen, so the first wrong position is that of row 7. Assumes nothing.
use mathlib.Core.Path.{◌≡◌, refl, sym, ap, subst, ◌∙◌}
use mathlib.Core.Bool.{Bool, true, false, cond, not, ◌||◌}
use mathlib.Core.List.{List, [], ◌∷◌}
use Prim.Native.Nat.{ℕ, suc, ◌≤◌, ◌<◌}
use native.Mathlib.Omega.{arith}
use lib.Dec.{eqb, ltb}
use lib.ListN.{length, get_or, set, replicate, length-set, get_or-replicate, length-replicate}
use lib.Seq.{get_or-set_same, get_or-set_other}
use borrow.Author.Tests.{eqb-true, eqb-false, ltb-false}
use Rattle.std.specs.Prelude.{Some, None}
use Rattle.dimacs.specs.Model.{among, variables}
use Rattle.dimacs.specs.Clause.{Literal}
use Rattle.dimacs.specs.Decision.{first_wrong}
use Rattle.scan.specs.declared.seen.Seen.{Seen}
use Rattle.scan.specs.Seen.{seen_as, marked}
use Rattle.scan.specs.Marks.{mark_of, place_of}

-- after more literals, p having been read
unfoldable pub seen_after : ℕ → Seen → ℕ → List Literal → Seen
seen_after top s p [] = s
seen_after top s p (x ∷ xs) = seen_after top (marked s (suc p) top x.negated x.variable) (suc p) xs

-- the marks say what was seen
pub record Agrees (top : ℕ) (a seen : List ℕ) : Type 0 where
  pub room : top < length a
  pub says_seen : (v : ℕ) → v ≤ top → eqb (get_or a v 0) 0 ≡ not (among v seen)

-- one more
agrees_set : {top : ℕ} {a seen : List ℕ} (v x : ℕ) → v ≤ top → eqb x 0 ≡ false → Agrees top a seen → Agrees top (set a v x) (v ∷ seen)
unfolding among
agrees_set {top} {a} {seen} v x h n g =
    record { room = subst (λ m. top < m) (sym (length-set a v x)) g.room; says_seen = λ u k. go (eqb u v) refl k }
  where
    go : {u : ℕ} (y : Bool) → eqb u v ≡ y → u ≤ top → eqb (get_or (set a v x) u 0) 0 ≡ not (y || among u seen)
    go {u} true e k = let r = g.room in ap (λ z. eqb (get_or (set a v x) z 0) 0) (eqb-true u v e) ∙ ap (λ z. eqb z 0) (get_or-set_same a v x 0 (omega arith)) ∙ n
    go {u} false e k = ap (λ z. eqb z 0) (get_or-set_other a v u x 0 (eqb-false u v e)) ∙ g.says_seen u k

-- what is wrong stays wrong
wrong_stays : (top : ℕ) (a : List ℕ) (w p : ℕ) (xs : List Literal) → seen_after top (seen_as a (Some w)) p xs ≡ seen_as a (Some w)
unfolding seen_after marked
wrong_stays top a w p [] = refl
wrong_stays top a w p (x ∷ xs) = wrong_stays top a w (suc p) xs

-- the first literal's mark
abbrev sign : Literal → ℕ
sign x = cond x.negated 2 1

sign-not : (n : Bool) → eqb (cond n 2 1) 0 ≡ false
sign-not true = refl
sign-not false = refl

some_not : (p : ℕ) → Some (suc p) ≡ None → ⊥
some_not p e = cc

-- what the first literal does, by the tests of row 7
module _ (top p : ℕ) (a : List ℕ) (x : Literal) where
  abbrev marked_by : Bool → Bool → Seen
  marked_by y z = cond y (seen_as a (Some (suc p))) (cond z (seen_as (set a x.variable (sign x)) None) (seen_as a (Some (suc p))))

  -- one that is not wrong is marked
  marked_new : (xs : List Literal) → (seen_after top (seen_as a None) p (x ∷ xs)).wrong ≡ None → (x.variable ≤ top) × (eqb (get_or a x.variable 0) 0 ≡ true) × (marked (seen_as a None) (suc p) top x.negated x.variable ≡ seen_as (set a x.variable (sign x)) None)
  unfolding seen_after marked
  marked_new xs = go (ltb top x.variable) refl (eqb (get_or a x.variable 0) 0) refl
    where
      go : (y : Bool) → ltb top x.variable ≡ y → (z : Bool) → eqb (get_or a x.variable 0) 0 ≡ z → (seen_after top (marked_by y z) (suc p) xs).wrong ≡ None → (x.variable ≤ top) × (z ≡ true) × (marked_by y z ≡ seen_as (set a x.variable (sign x)) None)
      go true e z f h = absurd (some_not p (sym (ap (λ s. s.wrong) (wrong_stays top a (suc p) (suc p) xs)) ∙ h))
      go false e true f h = (ltb-false top x.variable e, refl, refl)
      go false e false f h = absurd (some_not p (sym (ap (λ s. s.wrong) (wrong_stays top a (suc p) (suc p) xs)) ∙ h))

pub first_wrong_lem : (top p : ℕ) (a seen : List ℕ) (xs : List Literal) → Agrees top a seen → (seen_after top (seen_as a None) p xs).wrong ≡ place_of (first_wrong top seen (suc p) (variables xs))
unfolding seen_after marked first_wrong
first_wrong_lem top p a seen [] g = refl
first_wrong_lem top p a seen (x ∷ xs) g = go (ltb top x.variable) refl (among x.variable seen) refl (λ b s k. first_wrong_lem top (suc p) b s xs k)
  where
    go : (y : Bool) → ltb top x.variable ≡ y → (z : Bool) → among x.variable seen ≡ z → ((b s : List ℕ) → Agrees top b s → (seen_after top (seen_as b None) (suc p) xs).wrong ≡ place_of (first_wrong top s (suc (suc p)) (variables xs))) → (seen_after top (marked_by top p a x y (eqb (get_or a x.variable 0) 0)) (suc p) xs).wrong ≡ place_of (cond (y || z) (suc p) (first_wrong top (x.variable ∷ seen) (suc (suc p)) (variables xs)))
    go true e z f i = ap (λ s. s.wrong) (wrong_stays top a (suc p) (suc p) xs)
    go false e true f i = simp (g.says_seen x.variable (ltb-false top x.variable e) ∙ ap not f) (ap (λ s. s.wrong) (wrong_stays top a (suc p) (suc p) xs))
    go false e false f i =
        let l = ltb-false top x.variable e in
        simp (g.says_seen x.variable l ∙ ap not f) (i (set a x.variable (sign x)) (x.variable ∷ seen) (agrees_set x.variable (sign x) l (sign-not x.negated) g))

-- a mark that is set stays, and the others are those of the literals
pub marks_are : (top p : ℕ) (a : List ℕ) (xs : List Literal) → top < length a → (seen_after top (seen_as a None) p xs).wrong ≡ None → (v : ℕ) → v ≤ top → get_or (seen_after top (seen_as a None) p xs).marks v 0 ≡ cond (eqb (get_or a v 0) 0) (mark_of xs v) (get_or a v 0)
unfolding seen_after mark_of
marks_are top p a [] r h v k = go (eqb (get_or a v 0) 0) refl
  where
    go : (y : Bool) → eqb (get_or a v 0) 0 ≡ y → get_or a v 0 ≡ cond y 0 (get_or a v 0)
    go true e = eqb-true (get_or a v 0) 0 e
    go false e = refl
marks_are top p a (x ∷ xs) r h v k =
    let n = marked_new top p a x xs h in
    let b = set a x.variable (sign x) in
    let i = marks_are top (suc p) b xs (subst (λ m. top < m) (sym (length-set a x.variable (sign x))) r) (ap (λ s. (seen_after top s (suc p) xs).wrong) (sym n.2) ∙ h) v k in
    ap (λ s. get_or (seen_after top s (suc p) xs).marks v 0) n.2 ∙ i ∙ go n.0 n.1 (eqb v x.variable) refl
  where
    go : x.variable ≤ top → eqb (get_or a x.variable 0) 0 ≡ true → (y : Bool) → eqb v x.variable ≡ y → cond (eqb (get_or (set a x.variable (sign x)) v 0) 0) (mark_of xs v) (get_or (set a x.variable (sign x)) v 0) ≡ cond (eqb (get_or a v 0) 0) (cond y (sign x) (mark_of xs v)) (get_or a v 0)
    go l f true e =
        let g = eqb-true v x.variable e in
        let q : get_or (set a x.variable (sign x)) v 0 ≡ sign x = ap (λ z. get_or (set a x.variable (sign x)) z 0) g ∙ get_or-set_same a x.variable (sign x) 0 (omega arith) in
        let f' : eqb (get_or a v 0) 0 ≡ true = subst (λ z. eqb (get_or a z 0) 0 ≡ true) (sym g) f in
        simp (q, f', sign-not x.negated)
    go l f false e = rw (get_or-set_other a x.variable v (sign x) 0 (eqb-false v x.variable e)) refl

-- nothing was seen
pub agrees_none : (top n : ℕ) → top < n → Agrees top (replicate n 0) []
unfolding among
agrees_none top n h = record { room = subst (λ m. top < m) (sym (length-replicate n 0)) h; says_seen = λ v k. ap (λ z. eqb z 0) (get_or-replicate n v 0 0 (omega arith)) }
