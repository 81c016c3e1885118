-- A walk through a row: of its places only the one at its connection's code can be false. Assumes nothing.
use mathlib.Core.Path.{◌≡◌, refl, sym, ap, ◌∙◌, subst}
use mathlib.Core.Bool.{Bool, true, false, ◌&&◌, and-false, and_self}
use mathlib.Core.List.{List, [], ◌++◌}
use Prim.Native.Nat.{ℕ, zero, suc, ◌+◌, ◌^◌, ◌<◌}
use native.Mathlib.Omega.{arith}
use lib.Dec.{eqb}
use lib.ListN.{length, length-append}
use borrow.Author.Tests.{eqb-true, eq-eqb, ne_eqb}
use Rattle.facts.proofs.Bools.{and_left, and_right, never}
use Rattle.channel.specs.declared.Code.{Code}
use Rattle.channel.specs.Valid.{Each}
use Rattle.channel.proofs.Validity.{each_append}
use Rattle.clauses.specs.Clauses.{bits_for}
use Rattle.clauses.proofs.Joins.{join_of, only_of}
use Rattle.places.specs.declared.Place.{Place}
use Rattle.places.specs.declared.Row.{Row}
use Rattle.places.specs.Places.{place_at, row_to, row_places, places_of, places_before}
use Rattle.places.specs.Table.{table_grid, forbidden_in, table_row}
use Rattle.places.proofs.Rows.{row_is, place-split}
use Rattle.model.specs.Codes.{code_for}
use Rattle.model.specs.Walks.{false_at, FirstFalse, Other}

-- when a clause of a row is false
module _ (codes : List Code) (i c : ℕ) where
  pub own-only : (s : ℕ) → s < 2 → false_at codes (place_at s i c) ≡ (eqb (code_for codes i) c && eqb (code_for codes i) c)
  unfolding false_at place_at
  own-only zero l = sym (and_self (eqb (code_for codes i) c))
  own-only (suc zero) l = sym (and_self (eqb (code_for codes i) c))
  own-only (suc (suc h)) l = absurd (omega arith)

  pub other_too : (h s : ℕ) → s ≡ suc (suc h) → false_at codes (place_at s i c) ≡ (eqb (code_for codes h) c && eqb (code_for codes i) c)
  unfolding false_at place_at
  other_too h s e = ap (λ k. false_at codes (place_at k i c)) e

-- none of the places is false
abbrev pub Quiet : List Code → List Place → Type 0
Quiet codes = Each (λ x. false_at codes x ≡ false)

pub quiet_none : (codes : List Code) → Quiet codes []
unfolding Each
quiet_none codes = tt

-- a row of the table, with the code of its connection
module _ (runs : List ℕ) (codes : List Code) (t m : ℕ) (row : Row) (h : ℕ) (o : Other m row h) (quiet : Quiet codes (places_before (table_grid runs t m) row)) where
  abbrev s : ℕ
  s = row.stage

  abbrev i : ℕ
  i = row.i

  abbrev own : ℕ
  own = code_for codes i

  abbrev both : Bool
  both = eqb (code_for codes h) own && forbidden_in runs t row own

  differs : (c : ℕ) → (own ≡ c → ⊥) → false_at codes (place_at s i c) ≡ false
  differs c n = o.both codes c ∙ ap (λ v. eqb (code_for codes h) c && v) (ne_eqb own c n) ∙ and-false (eqb (code_for codes h) c)

  quiet_to : (n : ℕ) → ((c : ℕ) → c < n → forbidden_in runs t row c ≡ true → false_at codes (place_at s i c) ≡ false) → Quiet codes (places_before (table_grid runs t m) row ++ table_row runs t row n)
  unfolding row_to
  quiet_to n q = each_append _ (places_before (table_grid runs t m) row) (table_row runs t row n) quiet (join_of _ n _ (λ c l. only_of _ _ _ (q c l)))

  -- the clause at the code is there, and it is false
  pub row-false : both ≡ true → s < m + 2 → i < m → own < 2 ^ bits_for t → (k : ℕ) → k ≡ length (places_before (table_grid runs t m) row) → FirstFalse codes (places_of (table_grid runs t m)) (k + length (table_row runs t row own) + 1)
  row-false e u v l k q =
      let r = place-split runs t row m u v own l (and_right (eqb (code_for codes h) own) _ e) in
      record {
        passed = places_before (table_grid runs t m) row ++ table_row runs t row own;
        place = place_at s i own;
        rest = r.0;
        is = r.1;
        number = let n = length-append (places_before (table_grid runs t m) row) (table_row runs t row own) in omega arith;
        before = quiet_to own (λ c p r. differs c (λ y. omega arith));
        there = o.both codes own ∙ (λ z. and_left (eqb (code_for codes h) own) _ e z && eq-eqb own own refl z);
      }

  -- no clause of the row is false
  pub row-true : both ≡ false → Quiet codes (places_before (table_grid runs t m) row ++ row_places (table_grid runs t m) row)
  row-true e = subst (λ l. Quiet codes (places_before (table_grid runs t m) row ++ l)) (sym (row_is runs t row m)) (quiet_to (2 ^ bits_for t) (λ c l b. none c b (eqb own c) refl))
    where
      none : (c : ℕ) → forbidden_in runs t row c ≡ true → (v : Bool) → eqb own c ≡ v → false_at codes (place_at s i c) ≡ false
      none c b true q =
          let z = eqb-true own c q in
          o.both codes c ∙ (λ y. eqb (code_for codes h) (sym z y) && (q ∙ sym b ∙ ap (forbidden_in runs t row) (sym z)) y) ∙ e
      none c b false q = differs c (λ z. never (cc (eq-eqb own c z)))
