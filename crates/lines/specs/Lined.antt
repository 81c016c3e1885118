-- Document 01, "Clause lines": the lines of a clause list by their numbers, and what a call for one answers over the table. Assumes nothing: these are definitions.
use Rattle.std.specs.Prelude.{List, [], ℕ, zero, suc, ◌+◌, ◌*◌, length, get_or}
use Rattle.dimacs.specs.Lines.{clause_text, header_text}
use Rattle.channel.specs.Limits.{most_bits}
use Rattle.channel.specs.Channel.{Job}
use Rattle.clauses.specs.Clauses.{Grid, grid_of, width_of, clauses_of}

-- the most bytes of a line, LF included: the literals of two codes, at most five bytes each with the blank, then `0` and LF
abbrev pub most_line : ℕ
most_line = 2 * most_bits * 5 + 2

-- line 0 is `p cnf V C`, line n is clause n
unfoldable pub text_of : Grid → ℕ → List ℕ
text_of g zero = header_text (g.connections * width_of g) (length (clauses_of g))
text_of g (suc n) = clause_text (get_or (clauses_of g) n [])

abbrev pub line_text : Job → ℕ → List ℕ
line_text j n = text_of (grid_of j) n
