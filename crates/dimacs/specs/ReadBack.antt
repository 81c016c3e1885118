-- Stepping stones: line 0 and the clause lines as one text, read back. `reads_back` (proofs/ReadBack.antt) says that it is so. Assumes nothing: these are definitions.
use Rattle.std.specs.Prelude.{◌≡◌, List, [], ◌∷◌, ◌++◌, ℕ}
use Rattle.text.specs.Text.{digits}
use Rattle.dimacs.specs.Clause.{Clause}
use Rattle.dimacs.specs.Reply.{split, lines, decimal}
use Rattle.dimacs.specs.Lines.{clauses_in, clauses_text, header_text, pcnf}

-- line 0 is `p cnf V C`
unfoldable pub header_line : ℕ → ℕ → List ℕ
header_line n c = pcnf ++ (digits 9 n ++ (32 ∷ digits 9 c))

-- the numbers of at most ten digits are below this
abbrev pub ten_digits : ℕ
ten_digits = 10000000000

-- line 0 and then the clauses: `p`, `cnf`, V and C, and the clause list
pub record ReadsBack (n c : ℕ) (cs : List Clause) : Type 0 where
  pub first_line : lines (header_text n c ++ clauses_text cs) ≡ header_line n c ∷ lines (clauses_text cs)
  pub header_is : split 32 (header_line n c) ≡ (112 ∷ []) ∷ (99 ∷ 110 ∷ 102 ∷ []) ∷ digits 9 n ∷ digits 9 c ∷ []
  pub variables_are : decimal 0 (digits 9 n) ≡ n
  pub count_is : decimal 0 (digits 9 c) ≡ c
  pub clauses_are : clauses_in (clauses_text cs) ≡ cs
