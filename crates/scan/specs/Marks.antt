-- Stepping stones: what a reading says of a reply: the answer of row 6, row 7's first wrong position, and a mark for each variable. Over `answer_of` and
-- `first_wrong` of crate dimacs, which its rows give their meaning. Assumes nothing: these are definitions.
use Rattle.std.specs.Prelude.{◌≡◌, cond, List, [], ◌∷◌, ℕ, zero, suc, ◌≤◌, eqb, length, get_or, Option, Some, None, Result, Ok, Err}
use Rattle.dimacs.specs.Clause.{Literal}
use Rattle.dimacs.specs.Reply.{Word}
use Rattle.dimacs.specs.Model.{before_nought, variables}
use Rattle.dimacs.specs.Decision.{Parsed, Refused6, Sat as SatAs, Unsat, Unsure, answer_of, first_wrong}
use Rattle.scan.specs.declared.Answer.{Answer}
use Rattle.scan.specs.declared.Answer.TheVariants.{Claimed, Unknown, Sat}

-- the answer of row 6, with the number of literals before `0`
unfoldable pub brief : Parsed → Result Answer ℕ
brief (Refused6 n) = Err n
brief (SatAs xs) = Ok (Sat (length (before_nought xs)))
brief Unsat = Ok Claimed
brief Unsure = Ok Unknown

-- a place counted from 1, or none where the number is 0
abbrev pub place_of : ℕ → Option ℕ
place_of zero = None
place_of (suc n) = Some (suc n)

-- the mark of a variable: 0 if it is not among the literals, 1 if it is plain there, 2 if negated
unfoldable pub mark_of : List Literal → ℕ → ℕ
mark_of [] v = 0
mark_of (x ∷ xs) v = cond (eqb v x.variable) (cond x.negated 2 1) (mark_of xs v)

-- the answer of row 6; with SATISFIABLE the place of row 7's first test, if there is one, and if there is none the marks of the variables
pub record Done (text : List ℕ) (top : ℕ) (answer : Result Answer ℕ) (wrong : Option ℕ) (seen : List ℕ) : Type 0 where
  pub says_answer : answer ≡ brief (answer_of text)
  pub first : (zs : List Word) → answer_of text ≡ SatAs zs → wrong ≡ place_of (first_wrong top [] 1 (variables (before_nought zs)))
  pub marks : (zs : List Word) → answer_of text ≡ SatAs zs → wrong ≡ None → (v : ℕ) → v ≤ top → get_or seen v 0 ≡ mark_of (before_nought zs) v
