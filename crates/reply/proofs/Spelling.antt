-- The labels that values of a job's variables spell: the routing of a model, the only one with its values, and what the codes of its marks write.
-- Assumes nothing.
use mathlib.Core.Path.{◌≡◌, refl, sym, ap, ◌∙◌}
use mathlib.Core.Bool.{Bool, true, false}
use mathlib.Core.List.{List, [], ◌∷◌, ◌++◌}
use Prim.Native.Nat.{ℕ, zero, suc, ◌+◌, ◌*◌, ◌-◌, ◌≤◌, ◌<◌}
use native.Mathlib.Omega.{arith}
use native.Mathlib.Nat.{suc-mul, mul-le-mul, le_refl}
use lib.ListN.{length, get_or, take, drop, length-map, take-append-drop}
use lib.Seq.{ext_get_or, get_or-take, length-take-le}
use Rattle.dimacs.specs.Clause.{value_in, makes_all}
use Rattle.dimacs.specs.Decision.{assigned}
use Rattle.dimacs.proofs.Values.{assigned-length, assigned_value, makes_all_agree}
use Rattle.channel.specs.declared.Code.{Code}
use Rattle.channel.specs.Channel.{Job, M}
use Rattle.channel.specs.Routing.{Routing}
use Rattle.clauses.specs.Clauses.{clauses, variable_count, width, codes, label_with, code_with, spelled, Model}
use Rattle.clauses.specs.Reading.{codes_in, labels_in}
use Rattle.clauses.proofs.Bits.{code_at}
use Rattle.clauses.proofs.Spelling.{codes-length, codes_at, code_at-number, spell-length}
use Rattle.clauses.proofs.Models.{label_at, model_routing, model_spells, labels_of_spelled}
use Rattle.clauses.proofs.Order.{job-within}
use Rattle.model.specs.Codes.{set_in, code_from, code_for, Codes}
use Rattle.model.proofs.Coding.{code_agrees}
use Rattle.reply.specs.Steps.{LabelsPut, labels_by}

module _ (j : Job) (σ : ℕ → Bool) where
  abbrev a : List Bool
  a = assigned (variable_count j) σ

  value : (v : ℕ) → 1 ≤ v → v ≤ variable_count j → value_in a v ≡ σ v
  value = assigned_value (variable_count j) σ

  module _ (h : makes_all σ (clauses j) ≡ true) where
    model_of : Model j a
    model_of = record { many = assigned-length (variable_count j) σ; all = makes_all_agree (variable_count j) (value_in a) σ value (clauses j) (job-within j) ∙ h }

    -- values that make all clauses true spell a routing
    pub labels_route : Routing j (labels_by j σ)
    labels_route = model_routing j a model_of

    -- whose codes have those values
    pub labels-spell : (v : ℕ) → 1 ≤ v → v ≤ variable_count j → σ v ≡ value_in (spelled j (labels_by j σ)) v
    labels-spell v p q = sym (value v p q) ∙ ap (λ x. value_in x v) (model_spells j a model_of)

  -- and no other routing has them
  module _ (q : List ℕ) (r : Routing j q) (h : (v : ℕ) → 1 ≤ v → v ≤ variable_count j → σ v ≡ value_in (spelled j q) v) where
    long : length (spelled j q) ≡ variable_count j
    long = spell-length (width j) (codes q) ∙ ap (λ n. n * width j) (length-map q code_with ∙ r.whole)

    same : a ≡ spelled j q
    unfolding value_in
    same =
        ext_get_or false a (spelled j q) (assigned-length (variable_count j) σ ∙ sym long)
        (λ i l. let n = assigned-length (variable_count j) σ in let e : i + 1 - 1 ≡ i = omega arith in
        ap (λ k. get_or a k false) (sym e) ∙ value (i + 1) (omega arith) (omega arith) ∙ h (i + 1) (omega arith) (omega arith) ∙ ap (λ k. get_or (spelled j q) k false) e)

    pub labels_are : labels_by j σ ≡ q
    labels_are = ap (labels_in j) same ∙ labels_of_spelled j q r

-- the same values have the same labels
assigned-same : (n : ℕ) (σ τ : ℕ → Bool) → ((v : ℕ) → 1 ≤ v → v ≤ n → σ v ≡ τ v) → assigned n σ ≡ assigned n τ
unfolding assigned
assigned-same zero σ τ h = refl
assigned-same (suc n) σ τ h =
    let r = assigned-same n σ τ (λ v p q. h v p (omega arith)) in
    let e = h (suc n) (omega arith) (omega arith) in
    λ z. r z ++ (e z ∷ [])

pub labels-same : (j : Job) (σ τ : ℕ → Bool) → ((v : ℕ) → 1 ≤ v → v ≤ variable_count j → σ v ≡ τ v) → labels_by j σ ≡ labels_by j τ
labels-same j σ τ h = ap (labels_in j) (assigned-same (variable_count j) σ τ h)

-- the codes of marks, and their labels as written
module _ (j : Job) (marks : List ℕ) (codes' : List Code) (w m : ℕ) (w-is : w ≡ width j) (m_is : m ≡ M j) (g : Codes marks w m codes') where
  abbrev b : List Bool
  b = assigned (variable_count j) (set_in marks)

  reach : (i : ℕ) → i < M j → i * width j + width j ≤ variable_count j
  reach i l = let s = suc-mul i (width j) in let k = mul-le-mul {n₁ = suc i} {m₁ = width j} {n₂ = M j} {m₂ = width j} l (le_refl (width j)) in omega arith

  pub code_is : (σ : ℕ → Bool) → ((v : ℕ) → 1 ≤ v → v ≤ variable_count j → σ v ≡ set_in marks v) → (i : ℕ) → i < M j → code_for codes' i ≡ code_at σ (i * width j + 1) (width j)
  code_is σ h i l =
      let r = reach i l in
      g.at i (omega arith) ∙ ap (λ k. code_from marks (i * k + 1) k) w-is ∙ code_agrees marks (i * width j + 1) σ (width j) (λ u x y. h u (omega arith) (omega arith))

  code_read : (i : ℕ) → i < M j → code_for codes' i ≡ get_or (codes_in (width j) (M j) b) i 0
  code_read i l = code_is (value_in b) (λ v p q. assigned_value (variable_count j) (set_in marks) v p q) i l ∙ code_at-number b (i * width j) (width j) ∙ sym (codes_at (width j) (M j) i b l)

  pub labels-written : (old new : List ℕ) → m ≤ length old → LabelsPut m codes' old new → new ≡ labels_by j (set_in marks) ++ drop (M j) old
  labels-written old new r h =
      sym (take-append-drop m new)
      ∙ (λ z. front z ++ (h.rest ∙ ap (λ k. drop k old) m_is) z)
    where
      many : length (labels_by j (set_in marks)) ≡ M j
      many = length-map (codes_in (width j) (M j) b) label_with ∙ codes-length (width j) (M j) b

      all : length (take m new) ≡ m
      all = length-take-le m new (let e = h.long in omega arith)

      front : take m new ≡ labels_by j (set_in marks)
      front =
          ext_get_or 0 (take m new) (labels_by j (set_in marks)) (all ∙ m_is ∙ sym many)
          (λ i l. let n = all in let c = codes-length (width j) (M j) b in
          get_or-take m new i 0 (omega arith) ∙ h.labels i (omega arith) ∙ ap label_with (code_read i (omega arith)) ∙ sym (label_at (codes_in (width j) (M j) b) i (omega arith)))
