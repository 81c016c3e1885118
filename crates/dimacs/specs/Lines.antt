-- A clause list as text, and read back ("Clause lines" in document 01). Assumes nothing: these are definitions.
use Rattle.std.specs.Prelude.{cond, List, [], ◌∷◌, ◌++◌, map, ℕ}
use Rattle.text.specs.Text.{digits}
use Rattle.dimacs.specs.Clause.{Literal, Clause}
use Rattle.dimacs.specs.Reply.{split, lines, literal}
use Rattle.dimacs.specs.Model.{before_nought}

-- the largest variable of three digits
abbrev pub three_digits : ℕ
three_digits = 999

-- a minus if it is negated, then the variable
unfoldable pub literal_text : Literal → List ℕ
literal_text l = cond l.negated (45 ∷ []) [] ++ digits 2 l.variable

-- the literals, a blank behind each
unfoldable pub literals_text : Clause → List ℕ
literals_text [] = []
literals_text (l ∷ c) = (literal_text l ++ (32 ∷ [])) ++ literals_text c

-- a clause line is its literals with single blanks, then ` 0`
unfoldable pub clause_line : Clause → List ℕ
clause_line c = literals_text c ++ (48 ∷ [])

-- and it ends in LF
unfoldable pub clause_text : Clause → List ℕ
clause_text c = literals_text c ++ (48 ∷ 10 ∷ [])

-- `p cnf `
abbrev pub pcnf : List ℕ
pcnf = 112 ∷ 32 ∷ 99 ∷ 110 ∷ 102 ∷ 32 ∷ []

-- and it ends in LF
unfoldable pub header_text : ℕ → ℕ → List ℕ
header_text n c = pcnf ++ digits 9 n ++ (32 ∷ []) ++ digits 9 c ++ (10 ∷ [])

-- the lines of all clauses, one after the other
unfoldable pub clauses_text : List Clause → List ℕ
clauses_text [] = []
clauses_text (c ∷ cs) = clause_text c ++ clauses_text cs

-- the clause that a line is: the literals before `0`, read as those of a reply are
unfoldable pub clause_in : List ℕ → Clause
clause_in l = before_nought (map literal (split 32 l))

-- the clauses of a text, a line each
unfoldable pub clauses_in : List ℕ → List Clause
clauses_in t = map clause_in (lines t)
