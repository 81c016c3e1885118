-- Clauses, and what an assignment makes of them. Assumes nothing: these are definitions.
use Rattle.std.specs.Prelude.{Bool, true, false, cond, not, ◌&&◌, ◌||◌, List, [], ◌∷◌, ℕ, ◌-◌, leb, get_or}

-- a variable, plain or negated; variables are numbered from 1
pub record Literal : Type 0 where
  pub variable : ℕ
  pub negated : Bool

-- a clause is a list of literals
abbrev pub Clause : Type 0
Clause = List Literal

-- what an assignment, a value for each of the variables 1 to V, gives to a variable
unfoldable pub value_in : List Bool → ℕ → Bool
value_in a v = get_or a (v - 1) false

-- a literal is true
unfoldable pub is_true : (ℕ → Bool) → Literal → Bool
is_true σ l = cond l.negated (not (σ l.variable)) (σ l.variable)

-- a clause is made true: one of its literals is true
unfoldable pub makes : (ℕ → Bool) → Clause → Bool
makes σ [] = false
makes σ (l ∷ c) = is_true σ l || makes σ c

-- all clauses are made true
unfoldable pub makes_all : (ℕ → Bool) → List Clause → Bool
makes_all σ [] = true
makes_all σ (c ∷ cs) = makes σ c && makes_all σ cs

-- the variables of a clause are 1 to n
unfoldable pub within : ℕ → Clause → Bool
within n [] = true
within n (l ∷ c) = (leb 1 l.variable && leb l.variable n) && within n c

-- and those of all clauses
unfoldable pub within_all : ℕ → List Clause → Bool
within_all n [] = true
within_all n (c ∷ cs) = within n c && within_all n cs
