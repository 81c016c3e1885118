-- The text of literals and clauses by the bytes that are put down: one literal, the literals of a code, a clause at a place. Assumes nothing.
use mathlib.Core.Path.{◌≡◌, refl, sym, ap, ◌∙◌}
use mathlib.Core.Bool.{Bool, true, false, cond}
use mathlib.Core.List.{[], ◌∷◌, ◌++◌, append_assoc, append-nil}
use Prim.Native.Nat.{ℕ, zero, suc, ◌+◌, ◌*◌, ◌-◌, ◌/◌, ◌≤◌, ◌<◌}
use native.Mathlib.Omega.{arith}
use native.Mathlib.Nat.{suc-mul}
use native.Mathlib.Numerals.{sub-one}
use Rattle.facts.specs.Odd.{odd}
use Rattle.text.specs.Text.{digits}
use Rattle.dimacs.specs.Clause.{Clause}
use Rattle.dimacs.specs.Lines.{literal_text, literals_text, clause_text}
use Rattle.channel.specs.Limits.{most_connections, most_bits, most_variables}
use Rattle.channel.specs.declared.Code.{Code}
use Rattle.clauses.specs.Clauses.{forbid, bar}
use Rattle.clauses.proofs.Width.{variables_few}
use Rattle.places.specs.declared.Place.TheVariants.{One, Two}
use Rattle.places.specs.Places.{clause_at}

-- one literal
pub literal-plain : (b : Bool) (v : ℕ) → b ≡ false → literal_text (record { variable = v; negated = b }) ≡ digits 2 v
unfolding literal_text
literal-plain b v e = ap (λ x. cond x (45 ∷ []) [] ++ digits 2 v) e

pub literal_negated : (b : Bool) (v : ℕ) → b ≡ true → literal_text (record { variable = v; negated = b }) ≡ (45 ∷ []) ++ digits 2 v
unfolding literal_text
literal_negated b v e = ap (λ x. cond x (45 ∷ []) [] ++ digits 2 v) e

-- the literals of a code
pub literals-append : (c d : Clause) → literals_text (c ++ d) ≡ literals_text c ++ literals_text d
unfolding literals_text
literals-append [] d = refl
literals-append (l ∷ c) d = ap (λ t. (literal_text l ++ (32 ∷ [])) ++ t) (literals-append c d) ∙ sym (append_assoc (literal_text l ++ (32 ∷ [])) (literals_text c) (literals_text d))

pub literals-none : (k v c : ℕ) → k ≡ 0 → literals_text (forbid k v c) ≡ []
unfolding literals_text forbid
literals-none k v c e = ap (λ j. literals_text (forbid j v c)) e

pub literals_more : (k v c : ℕ) → (k ≡ 0 → ⊥) → literals_text (forbid k v c) ≡ literals_text (forbid (k - 1) v (c / 2)) ++ literal_text (record { variable = v + (k - 1); negated = odd c }) ++ (32 ∷ [])
unfolding literals_text forbid
literals_more zero v c z = absurd (z refl)
literals_more (suc k) v c z =
    rw sub-one (literals-append (forbid k v (c / 2)) (record { variable = v + k; negated = odd c } ∷ [])
    ∙ ap (λ t. literals_text (forbid k v (c / 2)) ++ t) (append-nil (literal_text (record { variable = v + k; negated = odd c }) ++ (32 ∷ [])))
    ∙ sym (append_assoc (literals_text (forbid k v (c / 2))) (literal_text (record { variable = v + k; negated = odd c })) (32 ∷ [])))

-- a connection's last variable
pub last_variable : (i w : ℕ) → i < most_connections → w ≤ most_bits → i * w + w ≤ most_variables
last_variable i w h g = let z = variables_few (suc i) w h g in let s = suc-mul i w in omega arith

-- the line of the clause at a place
pub one_line : (w i : ℕ) (c : Code) → clause_text (clause_at w (One i c)) ≡ literals_text (bar w i c.0) ++ (48 ∷ 10 ∷ [])
unfolding clause_text clause_at
one_line w i c = refl

pub two-line : (w h i : ℕ) (c : Code) → clause_text (clause_at w (Two h i c)) ≡ literals_text (bar w h c.0) ++ literals_text (bar w i c.0) ++ (48 ∷ 10 ∷ [])
unfolding clause_text clause_at
two-line w h i c = ap (λ t. t ++ (48 ∷ 10 ∷ [])) (literals-append (bar w h c.0) (bar w i c.0))
