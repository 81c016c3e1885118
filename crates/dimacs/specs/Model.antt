-- The literals of a reply's model, and the answers to a reply. Assumes nothing: these are definitions.
use Rattle.std.specs.Prelude.{Bool, false, cond, not, ◌||◌, List, [], ◌∷◌, map, ℕ, eqb}
use Rattle.dimacs.specs.Clause.{Literal}
use Rattle.dimacs.specs.Reply.{Word, stop, lit}

-- the literals before `0`
unfoldable pub before_nought : List Word → List Literal
before_nought [] = []
before_nought (stop ∷ xs) = []
before_nought (lit l ∷ xs) = l ∷ before_nought xs

-- the variables of literals
abbrev pub variables : List Literal → List ℕ
variables xs = map (λ x. x.variable) xs

-- the number v is among them
unfoldable pub among : ℕ → List ℕ → Bool
among v [] = false
among v (u ∷ us) = eqb v u || among v us

-- what the model gives to a variable: its sign in the list
unfoldable pub holds : List Literal → ℕ → Bool
holds [] v = false
holds (x ∷ xs) v = cond (eqb v x.variable) (not x.negated) (holds xs v)

-- the answer: refused with number and place; accepted with the model's literals; UNSATISFIABLE gives Claimed, UNKNOWN Unknown
pub data Reply : Type 0 where
  Refused : ℕ → ℕ → Reply
  Accepted : List Literal → Reply
  Claimed : Reply
  Unknown : Reply
