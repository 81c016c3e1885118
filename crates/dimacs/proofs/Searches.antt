-- Each of the three searches of a reply (the first line not well-formed, the first wrong position, the first false clause) brings the first that
-- breaks its rule. One shape: a list is searched from its front, and what is searched for moves up one place. Assumes nothing.
use mathlib.Core.Path.{◌≡◌, refl, sym, subst}
use mathlib.Core.Bool.{Bool, true, false, cond, ◌&&◌, ◌||◌}
use mathlib.Core.List.{List, [], ◌∷◌}
use Prim.Native.Nat.{ℕ, zero, suc, ◌+◌, ◌≤◌, ◌<◌}
use native.Mathlib.Omega.{arith}
use lib.Dec.{eqb, ltb}
use lib.ListN.{length, get_or, take}
use borrow.Author.Tests.{eqb-true, eqb-false, ltb-false, ltb-true}
use Rattle.facts.proofs.Bools.{both, neither, or-both, not-both, never}
use Rattle.refusals.specs.Table.{FirstBroken}
use Rattle.dimacs.specs.Clause.{Clause, makes, makes_all}
use Rattle.dimacs.specs.Decision.{first_false, first_bad, first_wrong, all_there}
use Rattle.dimacs.specs.Reply.{Line, bad, quiet, says, gives}
use Rattle.dimacs.specs.Model.{among}
use Rattle.dimacs.specs.Refusals.{Fits, Missing, MadeTrue}

-- a search whose first place has the number k
pub data From (Rule : ℕ → Type 0) (k r : ℕ) : Type 0 where
  none : r ≡ 0 → ((i : ℕ) → Rule i) → From Rule k r
  one : (j : ℕ) → r ≡ j + k → (Rule j → ⊥) → ((i : ℕ) → i < j → Rule i) → From Rule k r

here : {Rule : ℕ → Type 0} {k : ℕ} → (Rule 0 → ⊥) → From Rule k k
here {k = k} b = one 0 (let e : k ≡ 0 + k = omega arith in e) b (λ i h. absurd (omega arith))

later : {Rule Rest : ℕ → Type 0} {k r : ℕ} → Rule 0 → ((i : ℕ) → Rest i → Rule (suc i)) → ((i : ℕ) → Rule (suc i) → Rest i) → From Rest (suc k) r → From Rule k r
later {Rule} {Rest} {k} {r} z up down (none e h) = none e all
  where
    all : (i : ℕ) → Rule i
    all zero = z
    all (suc i) = up i (h i)
later {Rule} {Rest} {k} {r} z up down (one j e b h) = one (suc j) (let f : r ≡ suc j + k = omega arith in f) (λ g. b (down j g)) before
  where
    before : (i : ℕ) → i < suc j → Rule i
    before zero l = z
    before (suc i) l = up i (h i (omega arith))

-- what a search from 1 on brings: 0 if all keep the rule, and else the place of the first that breaks it
module _ {Rule : ℕ → Type 0} where
  pub searched_all : {r : ℕ} → From Rule 1 r → r ≡ 0 → (i : ℕ) → Rule i
  searched_all (none e h) z = h
  searched_all (one j e b h) z = absurd (omega arith)

  pub searched_broken : {r : ℕ} → From Rule 1 r → (r ≡ 0 → ⊥) → FirstBroken Rule r
  searched_broken (none e h) z = absurd (z e)
  searched_broken (one j e b h) z = record { index = j; counted = e; broken = b; kept = h }

bad_from : (k : ℕ) (ks : List Line) → From (λ i. get_or ks i quiet ≡ bad → ⊥) k (first_bad k ks)
unfolding first_bad
bad_from k [] = none refl (λ i e. never cc)
bad_from k (bad ∷ ks) = here (λ g. g refl)
bad_from k (quiet ∷ ks) = later (λ e. never cc) (λ i h. h) (λ i h. h) (bad_from (suc k) ks)
bad_from k (says s ∷ ks) = later (λ e. never cc) (λ i h. h) (λ i h. h) (bad_from (suc k) ks)
bad_from k (gives xs ∷ ks) = later (λ e. never cc) (λ i h. h) (λ i h. h) (bad_from (suc k) ks)

-- the first line not well-formed
pub bad_searched : (ks : List Line) → From (λ i. get_or ks i quiet ≡ bad → ⊥) 1 (first_bad 1 ks)
bad_searched = bad_from 1

false_from : (σ : ℕ → Bool) (k : ℕ) (cs : List Clause) → From (MadeTrue σ cs) k (first_false σ k cs)
unfolding first_false
false_from σ k [] = none refl (λ i h. absurd (omega arith))
false_from σ k (c ∷ cs) = go (makes σ c) refl (false_from σ (suc k) cs)
  where
    go : (x : Bool) → makes σ c ≡ x → From (MadeTrue σ cs) (suc k) (first_false σ (suc k) cs) → From (MadeTrue σ (c ∷ cs)) k (cond x (first_false σ (suc k) cs) k)
    go true e f = later (λ h. e) (λ i g h. g (omega arith)) (λ i g h. g (omega arith)) f
    go false e f = here (λ g. not-both (g (omega arith)) e)

-- the first clause that is made false
pub false_searched : (σ : ℕ → Bool) (cs : List Clause) → From (MadeTrue σ cs) 1 (first_false σ 1 cs)
false_searched σ = false_from σ 1

-- as Fits, with some that were seen before the list
abbrev FitsAfter : ℕ → List ℕ → List ℕ → ℕ → Type 0
FitsAfter n seen vs i = i < length vs → (get_or vs i 0 ≤ n) × (among (get_or vs i 0) seen ≡ false) × (among (get_or vs i 0) (take i vs) ≡ false)

wrong_from : (n k : ℕ) (seen vs : List ℕ) → From (FitsAfter n seen vs) k (first_wrong n seen k vs)
unfolding first_wrong among
wrong_from n k seen [] = none refl (λ i h. absurd (omega arith))
wrong_from n k seen (v ∷ vs) = go (ltb n v) refl (among v seen) refl (wrong_from n (suc k) (v ∷ seen) vs)
  where
    up : (i : ℕ) → FitsAfter n (v ∷ seen) vs i → FitsAfter n seen (v ∷ vs) (suc i)
    up i g h =
        let f = g (omega arith) in
        let e = neither (eqb (get_or vs i 0) v) (among (get_or vs i 0) seen) f.1 in
        (f.0, e.1, or-both e.0 f.2)

    down : (i : ℕ) → FitsAfter n seen (v ∷ vs) (suc i) → FitsAfter n (v ∷ seen) vs i
    down i g h =
        let f = g (omega arith) in
        let e = neither (eqb (get_or vs i 0) v) (among (get_or vs i 0) (take i vs)) f.2 in
        (f.0, or-both e.0 f.1, e.1)

    go : (x : Bool) → ltb n v ≡ x → (y : Bool) → among v seen ≡ y → From (FitsAfter n (v ∷ seen) vs) (suc k) (first_wrong n (v ∷ seen) (suc k) vs) → From (FitsAfter n seen (v ∷ vs)) k (cond (x || y) k (first_wrong n (v ∷ seen) (suc k) vs))
    go true e y f r = here (λ g. let a = (g (omega arith)).0 in let b = ltb-true n v e in absurd (omega arith))
    go false e true f r = here (λ g. not-both f (g (omega arith)).1)
    go false e false f r = later (λ h. (ltb-false n v e, f, refl)) up down r

fits_from : (n k : ℕ) (vs : List ℕ) {r : ℕ} → From (FitsAfter n [] vs) k r → From (Fits n vs) k r
unfolding among
fits_from n k vs (none e h) = none e (λ i g. let a = h i g in (a.0, a.2))
fits_from n k vs (one j e b h) = one j e (λ f. b (λ g. let a = f g in (a.0, refl, a.1))) (λ i l g. let a = h i l g in (a.0, a.2))

-- the first position whose variable is too large or seen before
pub wrong_searched : (n : ℕ) (vs : List ℕ) → From (Fits n vs) 1 (first_wrong n [] 1 vs)
wrong_searched n vs = fits_from n 1 vs (wrong_from n 1 [] vs)

-- each variable is there, or one is missing
pub all_there_lem : (n : ℕ) (vs : List ℕ) → all_there n vs ≡ true → (v : ℕ) → 1 ≤ v → v ≤ n → among v vs ≡ true
unfolding all_there
all_there_lem zero vs h v a b = absurd (omega arith)
all_there_lem (suc n) vs h v a b = let g = both (among (suc n) vs) (all_there n vs) h in go (eqb v (suc n)) refl g.0 (all_there_lem n vs g.1 v a)
  where
    go : (x : Bool) → eqb v (suc n) ≡ x → among (suc n) vs ≡ true → (v ≤ n → among v vs ≡ true) → among v vs ≡ true
    go true e f r = subst (λ z. among z vs ≡ true) (sym (eqb-true v (suc n) e)) f
    go false e f r = let d = eqb-false v (suc n) e in r (omega arith)

pub one_missing : (n : ℕ) (vs : List ℕ) → all_there n vs ≡ false → Missing n vs
unfolding all_there
one_missing zero vs h = not-both refl h
one_missing (suc n) vs h = go (among (suc n) vs) refl (one_missing n vs) h
  where
    go : (x : Bool) → among (suc n) vs ≡ x → (all_there n vs ≡ false → Missing n vs) → (x && all_there n vs) ≡ false → Missing (suc n) vs
    go true e r h = let m = r h in (m.0, m.1, omega (arith, m.2), m.3)
    go false e r h = (suc n, omega arith, omega arith, e)

-- no clause is made false exactly if all are made true
pub false-none : (σ : ℕ → Bool) (k : ℕ) (cs : List Clause) → first_false σ (suc k) cs ≡ 0 → makes_all σ cs ≡ true
unfolding first_false makes_all
false-none σ k [] h = refl
false-none σ k (c ∷ cs) h = go (makes σ c) (false-none σ (suc k) cs) h
  where
    go : (x : Bool) → (first_false σ (suc (suc k)) cs ≡ 0 → makes_all σ cs ≡ true) → cond x (first_false σ (suc (suc k)) cs) (suc k) ≡ 0 → (x && makes_all σ cs) ≡ true
    go true r h = r h
    go false r h = absurd (omega arith)

pub true-none : (σ : ℕ → Bool) (k : ℕ) (cs : List Clause) → makes_all σ cs ≡ true → first_false σ k cs ≡ 0
unfolding first_false makes_all
true-none σ k [] h = refl
true-none σ k (c ∷ cs) h = go (makes σ c) (λ j. true-none σ j cs) h
  where
    go : (x : Bool) → ((j : ℕ) → makes_all σ cs ≡ true → first_false σ j cs ≡ 0) → (x && makes_all σ cs) ≡ true → cond x (first_false σ (suc k) cs) k ≡ 0
    go true r h = r (suc k) h
    go false r h = not-both h refl
