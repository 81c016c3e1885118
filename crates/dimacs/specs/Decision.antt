-- Stepping stones: rows 6, 7 and 8 as one computed answer to every text. Nothing here has to be believed: `reply_means` (proofs/Meaning.antt) says that the
-- answer is what the rows of Refusals.antt make of the text, and `means_one` (proofs/Decided.antt) that they allow no other. Assumes nothing: these are definitions.
use Rattle.std.specs.Prelude.{Bool, true, false, cond, ◌&&◌, ◌||◌, List, [], ◌∷◌, map, ◌++◌, ℕ, zero, suc, ◌+◌, eqb, ltb, length}
use Rattle.dimacs.specs.Clause.{Literal, Clause, makes}
use Rattle.dimacs.specs.Reply.{Word, Status, satisfiable, unsatisfiable, unknown, Line, bad, quiet, says, gives, lines, line_of, statuses, literals, closed}
use Rattle.dimacs.specs.Model.{before_nought, among, variables, holds, Reply, Refused, Accepted, Claimed, Unknown}

-- the first line not well-formed, counted from i, or 0
unfoldable pub first_bad : ℕ → List Line → ℕ
first_bad i [] = 0
first_bad i (bad ∷ ks) = i
first_bad i (quiet ∷ ks) = first_bad (suc i) ks
first_bad i (says s ∷ ks) = first_bad (suc i) ks
first_bad i (gives xs ∷ ks) = first_bad (suc i) ks

-- what row 6 leaves of a text: refused at a place; or SATISFIABLE with these literals, UNSATISFIABLE, UNKNOWN
pub data Parsed : Type 0 where
  Refused6 : ℕ → Parsed
  Sat : List Word → Parsed
  Unsat : Parsed
  Unsure : Parsed

-- exactly one `s` line; with SATISFIABLE the literals are closed, otherwise there are none
unfoldable pub settle : List Status → List Word → Parsed
settle [] xs = Refused6 0
settle (satisfiable ∷ []) xs = cond (closed xs) (Sat xs) (Refused6 0)
settle (unsatisfiable ∷ []) [] = Unsat
settle (unsatisfiable ∷ []) (x ∷ xs) = Refused6 0
settle (unknown ∷ []) [] = Unsure
settle (unknown ∷ []) (x ∷ xs) = Refused6 0
settle (s ∷ s' ∷ ss) xs = Refused6 0

-- a line not well-formed decides before the other rules
unfoldable pub bad_first : ℕ → Parsed → Parsed
bad_first zero a = a
bad_first (suc n) a = Refused6 (suc n)

-- the answer of row 6 to lines that were read
unfoldable pub judged : List Line → Parsed
judged ks = bad_first (first_bad 1 ks) (settle (statuses ks) (literals ks))

-- what a text says, for every text
unfoldable pub answer_of : List ℕ → Parsed
answer_of t = judged (map line_of (lines t))

-- not refused by row 6
unfoldable pub accepts : Parsed → Bool
accepts (Refused6 n) = false
accepts (Sat xs) = true
accepts Unsat = true
accepts Unsure = true

-- the first position, from i on, of a variable above V or seen before, or 0
unfoldable pub first_wrong : ℕ → List ℕ → ℕ → List ℕ → ℕ
first_wrong n seen i [] = 0
first_wrong n seen i (v ∷ vs) = cond (ltb n v || among v seen) i (first_wrong n (v ∷ seen) (suc i) vs)

-- each variable 1 to V is among them
unfoldable pub all_there : ℕ → List ℕ → Bool
all_there zero vs = true
all_there (suc n) vs = among (suc n) vs && all_there n vs

-- the place of row 7, or 0
unfoldable pub place7 : ℕ → List ℕ → ℕ
place7 n vs =
    cond (eqb (first_wrong n [] 1 vs) 0)
    (cond (all_there n vs) 0 (length vs + 1))
    (first_wrong n [] 1 vs)

-- the first clause that is made false, counted from i, or 0; `false_searched` (proofs/Searches.antt) gives its meaning
unfoldable pub first_false : (ℕ → Bool) → ℕ → List Clause → ℕ
first_false σ i [] = 0
first_false σ i (c ∷ cs) = cond (makes σ c) (first_false σ (suc i) cs) i

-- rows 7 and 8, in this order
unfoldable pub checked : ℕ → List Clause → List Literal → Reply
checked n cs xs =
    cond (eqb (place7 n (variables xs)) 0)
    (cond (eqb (first_false (holds xs) 1 cs) 0)
    (Accepted xs)
    (Refused 8 (first_false (holds xs) 1 cs)))
    (Refused 7 (place7 n (variables xs)))

-- row 6 decides before them
unfoldable pub replied : ℕ → List Clause → Parsed → Reply
replied n cs (Refused6 k) = Refused 6 k
replied n cs (Sat xs) = checked n cs (before_nought xs)
replied n cs Unsat = Claimed
replied n cs Unsure = Unknown

-- the answer to a text, for V variables and the clauses cs
unfoldable pub reply_of : ℕ → List Clause → List ℕ → Reply
reply_of n cs t = replied n cs (answer_of t)

-- the assignment of the variables 1 to n that gives each its value under σ
unfoldable pub assigned : ℕ → (ℕ → Bool) → List Bool
assigned zero σ = []
assigned (suc n) σ = assigned n σ ++ (σ (suc n) ∷ [])
