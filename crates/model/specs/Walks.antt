-- Stepping stones: a walk over the places of clauses, with the code of each connection: the first clause that the codes make false, by its number.
-- `walk_finds` (proofs/Meaning.antt) says that it is the first false clause of the list. Assumes nothing: these are definitions.
use Rattle.std.specs.Prelude.{◌≡◌, Bool, true, false, ◌&&◌, List, ◌∷◌, ◌++◌, Result, Ok, Err, ℕ, ◌+◌, ◌<◌, eqb, length}
use Rattle.channel.specs.declared.Code.{Code}
use Rattle.channel.specs.Valid.{Each}
use Rattle.places.specs.declared.Place.{Place}
use Rattle.places.specs.declared.Place.TheVariants.{One, Two}
use Rattle.places.specs.declared.Row.{Row}
use Rattle.places.specs.Places.{place_at}
use Rattle.model.specs.Codes.{code_for}

-- the codes make the clause at a place false: the connection has the code that it forbids, or both have it
unfoldable pub false_at : List Code → Place → Bool
false_at codes (One i c) = eqb (code_for codes i) c.0
false_at codes (Two h i c) = eqb (code_for codes h) c.0 && eqb (code_for codes i) c.0

-- the place with the number p, from 1, is the first of a list that the codes make false
pub record FirstFalse (codes : List Code) (l : List Place) (p : ℕ) : Type 0 where
  pub passed : List Place
  pub place : Place
  pub rest : List Place
  pub is : l ≡ passed ++ (place ∷ rest)
  pub number : p ≡ length passed + 1
  pub before : Each (λ x. false_at codes x ≡ false) passed
  pub there : false_at codes place ≡ true

-- what a walk over a list brings: the number of the first place that is false; or how many there are, and none is
abbrev pub Brings : List Code → List Place → Result ℕ ℕ → Type 0
Brings codes l (Err p) = FirstFalse codes l p
Brings codes l (Ok k) = Each (λ x. false_at codes x ≡ false) l × (k ≡ length l)

-- every connection's code is below top
abbrev pub Below : ℕ → ℕ → List Code → Type 0
Below top m codes = (i : ℕ) → i < m → code_for codes i < top

-- h is a row's other connection, or i itself where it has no other: a clause of the row is false exactly if both have its code
pub record Other (m : ℕ) (row : Row) (h : ℕ) : Type 0 where
  pub inside : h < m
  pub both : (codes : List Code) (c : ℕ) → false_at codes (place_at row.stage row.i c) ≡ (eqb (code_for codes h) c && eqb (code_for codes row.i) c)
