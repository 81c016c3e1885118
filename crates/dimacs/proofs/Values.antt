-- Clauses see only the variables that stand in them: two ways to give the variables 1 to n values that agree there make the same clauses true.
-- Assumes nothing.
use mathlib.Core.Path.{◌≡◌, refl, sym, ap, ◌∙◌}
use mathlib.Core.Bool.{Bool, true, false, cond, not, ◌&&◌, ◌||◌}
use mathlib.Core.List.{List, [], ◌∷◌, ◌++◌}
use Prim.Native.Nat.{ℕ, zero, suc, ◌-◌, ◌≤◌}
use native.Mathlib.Omega.{arith}
use lib.Dec.{leb, eqb}
use lib.ListN.{length, get_or, length-append, get_or-append}
use lib.Seq.{get_or-append_seam}
use borrow.Author.Tests.{leb-true, eqb-true, eqb-false}
use Rattle.facts.proofs.Bools.{both}
use Rattle.dimacs.specs.Clause.{Clause, value_in, is_true, makes, makes_all, within, within_all}
use Rattle.dimacs.specs.Decision.{assigned, first_false}

pub assigned-length : (n : ℕ) (σ : ℕ → Bool) → length (assigned n σ) ≡ n
unfolding assigned
assigned-length zero σ = refl
assigned-length (suc n) σ = length-append (assigned n σ) (σ (suc n) ∷ []) ∙ (let h = assigned-length n σ in omega arith)

-- the assignment gives each variable its value
pub assigned_value : (n : ℕ) (σ : ℕ → Bool) (v : ℕ) → 1 ≤ v → v ≤ n → value_in (assigned n σ) v ≡ σ v
unfolding assigned value_in
assigned_value zero σ v a b = absurd (omega arith)
assigned_value (suc n) σ v a b = go (eqb v (suc n)) refl (assigned-length n σ) (assigned_value n σ v a)
  where
    go : (x : Bool) → eqb v (suc n) ≡ x → length (assigned n σ) ≡ n → (v ≤ n → get_or (assigned n σ) (v - 1) false ≡ σ v) → get_or (assigned n σ ++ (σ (suc n) ∷ [])) (v - 1) false ≡ σ v
    go true e l r =
        let f = eqb-true v (suc n) e in
        let p : v - 1 ≡ length (assigned n σ) = omega arith in
        ap (λ k. get_or (assigned n σ ++ (σ (suc n) ∷ [])) k false) p ∙ get_or-append_seam (assigned n σ) (σ (suc n)) [] false ∙ ap σ (sym f)
    go false e l r =
        let d = eqb-false v (suc n) e in
        get_or-append (assigned n σ) (σ (suc n) ∷ []) false (v - 1) (omega arith) ∙ r (omega arith)

module _ (n : ℕ) (σ τ : ℕ → Bool) (same : (v : ℕ) → 1 ≤ v → v ≤ n → σ v ≡ τ v) where
  makes_agree : (c : Clause) → within n c ≡ true → makes σ c ≡ makes τ c
  unfolding makes within is_true
  makes_agree [] h = refl
  makes_agree (l ∷ c) h =
      let g = both (leb 1 l.variable && leb l.variable n) (within n c) h in
      let k = both (leb 1 l.variable) (leb l.variable n) g.0 in
      let e = same l.variable (leb-true 1 l.variable k.0) (leb-true l.variable n k.1) in
      let r = makes_agree c g.1 in
      (λ i. cond l.negated (not (e i)) (e i) || r i)

  pub makes_all_agree : (cs : List Clause) → within_all n cs ≡ true → makes_all σ cs ≡ makes_all τ cs
  unfolding makes_all within_all
  makes_all_agree [] h = refl
  makes_all_agree (c ∷ cs) h =
      let g = both (within n c) (within_all n cs) h in
      let e = makes_agree c g.0 in
      let r = makes_all_agree cs g.1 in
      (λ i. e i && r i)

  pub first_false_agree : (k : ℕ) (cs : List Clause) → within_all n cs ≡ true → first_false σ k cs ≡ first_false τ k cs
  unfolding first_false within_all
  first_false_agree k [] h = refl
  first_false_agree k (c ∷ cs) h =
      let g = both (within n c) (within_all n cs) h in
      let e = makes_agree c g.0 in
      let r = first_false_agree (suc k) cs g.1 in
      (λ i. cond (e i) (r i) k)
