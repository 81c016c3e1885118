-- All lines of a job as one text, and what a text in DIMACS says. Assumes nothing: these are definitions.
use Rattle.std.specs.Prelude.{◌≡◌, Bool, ◌&&◌, List, [], ◌∷◌, map, ℕ, suc, get_or, drop}
use Rattle.dimacs.specs.Clause.{Clause}
use Rattle.dimacs.specs.Reply.{split, lines, decimal, is_literal, literal, every, closed}
use Rattle.dimacs.specs.Lines.{clause_in}
use Rattle.channel.specs.Channel.{Job}
use Rattle.clauses.specs.Clauses.{join_to, clause_count}
use Rattle.lines.specs.Lined.{line_text}

-- lines 0 to C, one after the other
unfoldable pub export_text : Job → List ℕ
export_text j = join_to (suc (clause_count j)) (line_text j)

-- a clause line: its words are literals with one `0`, the last of them
unfoldable pub is_clause_line : List ℕ → Bool
is_clause_line l = every is_literal (split 32 l) && closed (map literal (split 32 l))

-- a text says `p cnf V C`, and then clauses, a line each
pub record SaysClauses (t : List ℕ) (v c : ℕ) (cs : List Clause) : Type 0 where
  pub v_word : List ℕ
  pub c_word : List ℕ
  pub header : split 32 (get_or (lines t) 0 []) ≡ (112 ∷ []) ∷ (99 ∷ 110 ∷ 102 ∷ []) ∷ v_word ∷ c_word ∷ []
  pub variables : decimal 0 v_word ≡ v
  pub count : decimal 0 c_word ≡ c
  pub clauses : map clause_in (drop 1 (lines t)) ≡ cs
