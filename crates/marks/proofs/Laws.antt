-- Laws of the marks: a run that is free, a run that is filled. Assumes nothing.
use mathlib.Core.Path.{◌≡◌, refl, ap, ◌∙◌}
use mathlib.Core.Bool.{true, ◌&&◌, ◌||◌, not, or-true, and-true}
use mathlib.Core.Logic.{◌⊎◌, inl, inr, ⊎_elim}
use mathlib.Core.List.{List, [], ◌∷◌}
use Prim.Native.Nat.{ℕ, zero, suc, ◌+◌, ◌≤◌, ◌<◌}
use native.Mathlib.Nat.{add-zero, eq-or-lt_of_le, le_of_suc-le-suc, not-suc-le-zero}
use native.Mathlib.Numerals.{add-one}
use native.Mathlib.Omega.{arith}
use lib.Dec.{ltb, eqb}
use lib.ListN.{length, get_or, set, length-set, replicate}
use lib.Seq.{paste, get_or-set_same, get_or-set_other}
use borrow.Author.Tests.{not-true, ltb-false, eqb-true, eq-eqb}
use Rattle.std.specs.List.{between, list_all}
use Rattle.std.proofs.lemmas.List.Folds.{list_all-append}
use Rattle.std.proofs.lemmas.List.Edits.{between_none, between_more, paste_none, fill_from_more}
use Rattle.facts.proofs.Bools.{whether, and_left, and_right, and_both}
use Rattle.occupancy.specs.Runs.{owner_in}
use Rattle.marks.specs.Marking.{free, all_free, fill, fits_run, first, last, fits_in}

-- what is free for an owner: nobody has it, or that owner
pub free_says : (owner m : ℕ) → free owner m ≡ true → (m ≡ 0) ⊎ (m ≡ owner)
free_says owner m e = whether (eqb m 0) (λ h. inl (eqb-true m 0 h)) (λ h. inr (eqb-true m owner (rw h at e)))

pub free_own : (owner m : ℕ) → m ≡ owner → free owner m ≡ true
free_own owner m e = (λ i. eqb m 0 || eq-eqb m owner e i) ∙ or-true (eqb m 0)

module _ (owner : ℕ) (marks : List ℕ) (at : ℕ) where
  -- a run is free: each of its marks is
  pub all_free_says : (n : ℕ) → all_free owner marks at n ≡ true → (k : ℕ) → k < n → free owner (get_or marks (at + k) 0) ≡ true
  unfolding all_free
  all_free_says zero e k h = absurd (not-suc-le-zero h)
  all_free_says (suc n) e k h =
      ⊎_elim
      (λ (q : k ≡ n). ap (λ (x : ℕ). free owner (get_or marks (at + x) 0)) q ∙ and_right (all_free owner marks at n) _ e)
      (λ (q : k < n). all_free_says n (and_left (all_free owner marks at n) _ e) k q)
      (eq-or-lt_of_le (le_of_suc-le-suc h))

  pub all_free_is : (n : ℕ) → ((k : ℕ) → k < n → free owner (get_or marks (at + k) 0) ≡ true) → all_free owner marks at n ≡ true
  unfolding all_free
  all_free_is zero h = refl
  all_free_is (suc n) h = and_both (all_free_is n (λ k l. h k (omega arith))) (h n (omega arith))

  -- the same of the marks of the run as a list
  pub all_free_list : (n : ℕ) → at + n ≤ length marks → list_all (free owner) (between at (at + n) marks) ≡ all_free owner marks at n
  unfolding all_free
  all_free_list zero h = ap (λ (e : ℕ). list_all (free owner) (between at e marks)) (add-zero at) ∙ ap (list_all (free owner)) (between_none marks at)
  all_free_list (suc n) h =
      let e : at + suc n ≡ at + n + 1 = omega arith in
      ap (λ (e : ℕ). list_all (free owner) (between at e marks)) e
      ∙ ap (list_all (free owner)) (between_more marks at (at + n) 0 (omega arith) (omega arith))
      ∙ list_all-append (free owner) (between at (at + n) marks) (get_or marks (at + n) 0 ∷ [])
      ∙ (λ i. all_free_list n (omega arith) i && and-true (free owner (get_or marks (at + n) 0)) i)

pub fill-length : (v : ℕ) (marks : List ℕ) (at n : ℕ) → length (fill v marks at n) ≡ length marks
unfolding fill
fill-length v marks at zero = refl
fill-length v marks at (suc n) = length-set (fill v marks at n) (at + n) v ∙ fill-length v marks at n

-- the run with the new owner's marks in the place of the old ones
pub fill_paste : (v : ℕ) (marks : List ℕ) (at n : ℕ) → at + n ≤ length marks → fill v marks at n ≡ paste marks at (replicate n v) n
unfolding fill
fill_paste v marks at zero h = paste_none marks at (replicate 0 v)
fill_paste v marks at (suc n) h =
    ap (λ z. set z (at + n) v) (fill_paste v marks at n (omega arith))
    ∙ fill_from_more marks at n v (omega arith)
    ∙ ap (λ (k : ℕ). paste marks at (replicate k v) k) (add-one n)

-- elsewhere a mark is as it was
pub fill_off : (v : ℕ) (marks : List ℕ) (at n j : ℕ) → ((k : ℕ) → k < n → j ≡ at + k → ⊥) → get_or (fill v marks at n) j 0 ≡ get_or marks j 0
unfolding fill
fill_off v marks at zero j d = refl
fill_off v marks at (suc n) j d = get_or-set_other (fill v marks at n) (at + n) j v 0 (d n (omega arith)) ∙ fill_off v marks at n j (λ k l. d k (omega arith))

-- in the run it is the new one
pub fill-at : (v : ℕ) (marks : List ℕ) (at n k : ℕ) → at + n ≤ length marks → k < n → get_or (fill v marks at n) (at + k) 0 ≡ v
unfolding fill
fill-at v marks at zero k w l = absurd (not-suc-le-zero l)
fill-at v marks at (suc n) k w l =
    ⊎_elim
    (λ (e : k ≡ n).
    let g = fill-length v marks at n in
    ap (λ (x : ℕ). get_or (set (fill v marks at n) (at + n) v) (at + x) 0) e ∙ get_or-set_same (fill v marks at n) (at + n) v 0 (omega arith))
    (λ (q : k < n). get_or-set_other (fill v marks at n) (at + n) (at + k) v 0 (λ z. omega arith) ∙ fill-at v marks at n k (omega arith) q)
    (eq-or-lt_of_le (le_of_suc-le-suc l))

-- a run that fits has a segment: its last is not before the first; the same by the table
pub run_open : (owner : ℕ) (marks : List ℕ) (l a e : ℕ) → fits_run owner marks l a e ≡ true → a ≤ e
unfolding fits_run
run_open owner marks l a e q = ltb-false e a (not-true _ (and_left (not (ltb e a)) _ q))

pub fits_open : (runs : List ℕ) (i : ℕ) (marks : List ℕ) (l : ℕ) → fits_in runs i marks l ≡ true → first runs i l ≤ last runs i l
unfolding fits_in
fits_open runs i marks l e = run_open (owner_in runs i) marks l (first runs i l) (last runs i l) e
