-- What the walk says of the clauses: the first false place is the first clause that the model makes false. A clause at a place is false
-- exactly if its connections have the code that it forbids. Assumes nothing.
use mathlib.Core.Path.{◌≡◌, refl, sym, ap, ◌∙◌, subst}
use mathlib.Core.Bool.{Bool, true, false, cond, not, ◌&&◌, ◌||◌}
use mathlib.Core.List.{List, [], ◌∷◌, ◌++◌, map}
use Prim.Native.Nat.{ℕ, zero, suc, ◌+◌, ◌*◌, ◌^◌, ◌<◌}
use native.Mathlib.Omega.{arith}
use native.Mathlib.Nat.{add-zero, add-suc, suc-add}
use lib.Dec.{eqb}
use lib.ListN.{length}
use borrow.Author.Tests.{eqb-true, eqb-false}
use Rattle.std.specs.Prelude.{Result, Ok, Err}
use Rattle.facts.proofs.Bools.{never}
use Rattle.dimacs.specs.Clause.{makes}
use Rattle.dimacs.specs.Decision.{first_false}
use Rattle.channel.specs.declared.Code.{Code}
use Rattle.channel.specs.Valid.{Each}
use Rattle.clauses.specs.Clauses.{Grid, bar, width_of, clauses_of}
use Rattle.clauses.proofs.Joins.{makes-append}
use Rattle.clauses.proofs.Bits.{code_at, unmade, spelt}
use Rattle.places.specs.declared.Place.{Place}
use Rattle.places.specs.Places.{clause_at, place_at, places_of}
use Rattle.places.proofs.Rows.{all_places}
use Rattle.places.proofs.Places.{map_places}
use Rattle.model.specs.Codes.{code_for}
use Rattle.model.specs.Walks.{false_at, Brings}
use Rattle.model.proofs.Walking.{Quiet}

-- the number that a walk found, or 0
abbrev pub place_of : Result ℕ ℕ → ℕ
place_of (Err p) = p
place_of (Ok k) = 0

module _ (σ : ℕ → Bool) (w : ℕ) (codes : List Code) where
  -- the codes tell whether the clause at a place is false
  abbrev Fair : Place → Type 0
  Fair x = makes σ (clause_at w x) ≡ not (false_at codes x)

  -- the first place that is false, and no place that is
  first-at : (u v : List Place) (x : Place) (n : ℕ) → Each Fair (u ++ (x ∷ v)) → Quiet codes u → false_at codes x ≡ true → first_false σ n (map (clause_at w) (u ++ (x ∷ v))) ≡ n + length u
  unfolding Each first_false
  first-at [] v x n h q e = ap (λ b. cond b (first_false σ (suc n) (map (clause_at w) v)) n) (h.0 ∙ ap not e) ∙ sym (add-zero n)
  first-at (y ∷ u) v x n h q e =
      ap (λ b. cond b (first_false σ (suc n) (map (clause_at w) (u ++ (x ∷ v)))) n) (h.0 ∙ ap not q.0) ∙ first-at u v x (suc n) h.1 q.1 e ∙ suc-add n (length u) ∙ sym (add-suc n (length u))

  first-none : (l : List Place) (n : ℕ) → Each Fair l → Quiet codes l → first_false σ n (map (clause_at w) l) ≡ 0
  unfolding Each first_false
  first-none [] n h q = refl
  first-none (y ∷ l) n h q = ap (λ b. cond b (first_false σ (suc n) (map (clause_at w) l)) n) (h.0 ∙ ap not q.0) ∙ first-none l (suc n) h.1 q.1

module _ (σ : ℕ → Bool) (grid : Grid) (codes : List Code) (is : (i : ℕ) → i < grid.connections → code_for codes i ≡ code_at σ (i * width_of grid + 1) (width_of grid)) where
  abbrev w : ℕ
  w = width_of grid

  abbrev m : ℕ
  m = grid.connections

  -- a connection's clause is false exactly if it has the code
  fair_bar : (i c : ℕ) → i < m → c < 2 ^ w → makes σ (bar w i c) ≡ not (eqb (code_for codes i) c)
  unfolding bar
  fair_bar i c l k = go (makes σ (bar w i c)) refl (eqb (code_for codes i) c) refl
    where
      go : (a : Bool) → makes σ (bar w i c) ≡ a → (b : Bool) → eqb (code_for codes i) c ≡ b → a ≡ not b
      go true h true e =
          let s = spelt σ w (i * w + 1) c (sym (is i l) ∙ eqb-true (code_for codes i) c e) in
          never cc
      go true h false e = refl
      go false h true e = refl
      go false h false e = absurd (eqb-false (code_for codes i) c e (is i l ∙ unmade σ w (i * w + 1) c k h))

  both-not : (a b : Bool) → (not a || not b) ≡ not (a && b)
  both-not true b = refl
  both-not false b = refl

  fair : (s i c : ℕ) → s < m + 2 → i < m → c < 2 ^ w → Fair σ w codes (place_at s i c)
  unfolding place_at clause_at false_at
  fair zero i c l k e = fair_bar i c k e
  fair (suc zero) i c l k e = fair_bar i c k e
  fair (suc (suc h)) i c l k e =
      makes-append σ (bar w h c) (bar w i c) ∙ (λ z. fair_bar h c (omega arith) e z || fair_bar i c k e z) ∙ both-not (eqb (code_for codes h) c) (eqb (code_for codes i) c)

  all_fair : Each (Fair σ w codes) (places_of grid)
  all_fair = all_places grid (Fair σ w codes) fair

  -- THE WALK FINDS THE FIRST FALSE CLAUSE
  pub walk_finds : (r : Result ℕ ℕ) → Brings codes (places_of grid) r → first_false σ 1 (clauses_of grid) ≡ place_of r
  walk_finds (Err p) h =
      ap (first_false σ 1) (sym (map_places grid) ∙ ap (map (clause_at w)) h.is)
      ∙ first-at σ w codes h.passed h.rest h.place 1 (subst (Each (Fair σ w codes)) h.is all_fair) h.before h.there
      ∙ (let n = h.number in let e : 1 + length h.passed ≡ p = omega arith in e)
  walk_finds (Ok k) h = ap (first_false σ 1) (sym (map_places grid)) ∙ first-none σ w codes (places_of grid) 1 all_fair h.0
