-- Rows 6, 7 and 8 of document 01's table, for the text of a reply, V variables and a list of clauses; and what an answer says of the text.
-- Assumes nothing: these are definitions.
use Rattle.std.specs.Prelude.{◌≡◌, Bool, true, false, List, [], ◌∷◌, ◌++◌, map, ◌⊎◌, ℕ, ◌+◌, ◌≤◌, ◌<◌, length, get_or, take}
use Rattle.refusals.specs.Table.{Rows, row, ◌or◌, nowhere, FirstBroken, Refuses, Passes}
use Rattle.dimacs.specs.Clause.{Literal, Clause, makes, makes_all}
use Rattle.dimacs.specs.Reply.{Word, stop, lit, Status, satisfiable, unsatisfiable, unknown, Line, bad, quiet, lines, line_of, statuses, literals}
use Rattle.dimacs.specs.Model.{among, variables, holds, Reply, Refused, Accepted, Claimed, Unknown}

-- the lines of a text, each read: `line_is` and `line_shows` (proofs/Words.antt) hold `line_of` to the lines of document 01's sentence
abbrev pub lines_in : List ℕ → List Line
lines_in t = map line_of (lines t)

-- line i, counted from 0, is well-formed; behind the last there is none that is not
abbrev pub WellFormed : List ℕ → ℕ → Type 0
WellFormed t i = get_or (lines_in t) i quiet ≡ bad → ⊥

-- exactly one `s` line; with SATISFIABLE the literals hold one `0`, the last of them; otherwise there is no `v` line
abbrev pub Keeps : List Status → List Word → Type 0
Keeps ss ws = ((ss ≡ satisfiable ∷ []) × ((xs : List Literal) × (ws ≡ map lit xs ++ (stop ∷ [])))) ⊎ (((ss ≡ unsatisfiable ∷ []) ⊎ (ss ≡ unknown ∷ [])) × (ws ≡ []))

-- 6: a line not well-formed, at the first such line; or the `s`, `v` and `0` rules broken, at 0 if all are well-formed
abbrev pub row6 : List ℕ → Rows
row6 t = row 6 (λ p. FirstBroken (WellFormed t) p ⊎ nowhere (((i : ℕ) → WellFormed t i) × (Keeps (statuses (lines_in t)) (literals (lines_in t)) → ⊥)) p)

-- the text is well-formed with these `s` lines and these words
pub record Says (t : List ℕ) (ss : List Status) (ws : List Word) : Type 0 where
  pub well_formed : (i : ℕ) → WellFormed t i
  pub status_lines : statuses (lines_in t) ≡ ss
  pub value_words : literals (lines_in t) ≡ ws

-- the text is well-formed with `s SATISFIABLE`, and these are the literals before `0`
abbrev pub GivesModel : List ℕ → List Literal → Type 0
GivesModel t xs = Says t (satisfiable ∷ []) (map lit xs ++ (stop ∷ []))

-- the variable at position i, counted from 0, is not above V and was not seen before
abbrev pub Fits : ℕ → List ℕ → ℕ → Type 0
Fits n vs i = i < length vs → (get_or vs i 0 ≤ n) × (among (get_or vs i 0) (take i vs) ≡ false)

-- a variable of 1 to V is not among them
abbrev pub Missing : ℕ → List ℕ → Type 0
Missing n vs = (v : ℕ) × (1 ≤ v) × (v ≤ n) × (among v vs ≡ false)

-- what is unfit of literals, and its place: a literal's variable above V or seen before, at the first such position; else variables missing, at the number
-- of literals plus 1
abbrev pub Unfit : ℕ → List Literal → ℕ → Type 0
Unfit n xs p = FirstBroken (Fits n (variables xs)) p ⊎ (((i : ℕ) → Fits n (variables xs) i) × Missing n (variables xs) × (p ≡ length xs + 1))

-- 7: with `s SATISFIABLE`, the literals before `0` are unfit
abbrev pub row7 : ℕ → List ℕ → Rows
row7 n t = row 7 (λ p. (xs : List Literal) × GivesModel t xs × Unfit n xs p)

-- clause i, counted from 0, is made true
abbrev pub MadeTrue : (ℕ → Bool) → List Clause → ℕ → Type 0
MadeTrue σ cs i = i < length cs → makes σ (get_or cs i []) ≡ true

-- literals are a model: each of the variables 1 to V stands there once, and all clauses are made true
pub record IsModel (n : ℕ) (cs : List Clause) (xs : List Literal) : Type 0 where
  pub fits : (i : ℕ) → Fits n (variables xs) i
  pub each : (v : ℕ) → 1 ≤ v → v ≤ n → among v (variables xs) ≡ true
  pub all : makes_all (holds xs) cs ≡ true

-- 8: the model makes a clause false, at the first such clause
abbrev pub row8 : List Clause → List ℕ → Rows
row8 cs t = row 8 (λ p. (xs : List Literal) × GivesModel t xs × FirstBroken (MadeTrue (holds xs) cs) p)

-- all three
abbrev pub reply_rows : ℕ → List Clause → List ℕ → Rows
reply_rows n cs t = row6 t or row7 n t or row8 cs t

-- what an answer says of the text: the row that decides; or no row holds, and the `s` line is as the answer has it
pub data Means (n : ℕ) (cs : List Clause) (t : List ℕ) : Reply → Type 0 where
  is_refused : (num p : ℕ) → Refuses (reply_rows n cs t) num p → Means n cs t (Refused num p)
  is_accepted : (xs : List Literal) → GivesModel t xs → Passes (reply_rows n cs t) → Means n cs t (Accepted xs)
  is_claimed : Says t (unsatisfiable ∷ []) [] → Passes (reply_rows n cs t) → Means n cs t Claimed
  is_unknown : Says t (unknown ∷ []) [] → Passes (reply_rows n cs t) → Means n cs t Unknown
