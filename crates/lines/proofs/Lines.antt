-- The line with a number, by what was counted and by the place that was found. Assumes nothing.
use mathlib.Core.Path.{◌≡◌, sym, ap, ◌∙◌, subst}
use mathlib.Core.List.{List}
use Prim.Native.Nat.{ℕ, suc, ◌*◌, ◌-◌, ◌≤◌}
use native.Mathlib.Omega.{arith}
use lib.ListN.{length}
use Rattle.text.specs.Text.{Wrote}
use Rattle.dimacs.specs.Lines.{clause_text, header_text}
use Rattle.clauses.specs.Clauses.{clauses_of}
use Rattle.places.specs.declared.Place.{Place}
use Rattle.places.specs.Places.{clause_at, places_of, Hit, Sized}
use Rattle.places.specs.Table.{table_grid}
use Rattle.places.proofs.Places.{length_places, clause_at_lem}
use Rattle.lines.specs.Lined.{text_of}

above_zero : (n : ℕ) → ((n ≡ 0) → ⊥) → 1 ≤ n
above_zero n e = omega arith

module _ (runs : List ℕ) (t m n w top : ℕ) (s : Sized t w top) where
  -- line 0
  pub zeroth : (old new : List ℕ) (c r : ℕ) → n ≡ 0 → c ≡ length (places_of (table_grid runs t m)) → Wrote old 0 (header_text (m * w) c) new r → (n ≤ length (clauses_of (table_grid runs t m))) × Wrote old 0 (text_of (table_grid runs t m) n) new r
  unfolding text_of
  zeroth old new c r e f h =
      (omega arith, subst (λ l. Wrote old 0 l new r) ((λ z. header_text (m * s.bits z) ((f ∙ length_places (table_grid runs t m)) z)) ∙ ap (text_of (table_grid runs t m)) (sym e)) h)

  -- the clause at the place that was found is line n
  pub found : (p : Place) → ((n ≡ 0) → ⊥) → Hit (places_of (table_grid runs t m)) (n - 1) p → (old new : List ℕ) (r : ℕ) → Wrote old 0 (clause_text (clause_at w p)) new r → (n ≤ length (clauses_of (table_grid runs t m))) × Wrote old 0 (text_of (table_grid runs t m) n) new r
  unfolding text_of
  found p e hit old new r g =
      let z = length_places (table_grid runs t m) in
      let i = hit.inside in
      let q : clause_text (clause_at w p) ≡ text_of (table_grid runs t m) (suc (n - 1)) = ap (λ v. clause_text (clause_at v p)) s.bits ∙ ap clause_text (sym (clause_at_lem (table_grid runs t m) (n - 1) p hit)) in
      let f : suc (n - 1) ≡ n = (let x : 1 ≤ n = above_zero n e in omega arith) in
      (omega arith, subst (λ l. Wrote old 0 l new r) (q ∙ ap (text_of (table_grid runs t m)) f) g)
