-- Replies worked by hand and held against the definitions. Job A's clauses are document 01's lines `1 2 0`, `2 3 0`, `-2 -3 0`. Assumes nothing.
use mathlib.Core.Path.{◌≡◌, refl}
use mathlib.Core.Bool.{Bool, true, false}
use mathlib.Core.List.{List, [], ◌∷◌}
use Prim.Native.Nat.{ℕ}
use Rattle.facts.specs.Same.{same}
use Rattle.text.specs.Text.{digits}
use Rattle.dimacs.specs.Clause.{Literal, Clause, is_true, makes}
use Rattle.dimacs.specs.Decision.{first_false, first_bad, settle, bad_first, judged, answer_of, first_wrong, all_there, place7, checked, replied, reply_of}
use Rattle.dimacs.specs.Reply.{onto, split, kept, lines, every, is_number, decimal, unsigned, negative, is_literal, literal, text, status_word, status_line, value_line, tagged, line_of, statuses, literals, closed}
use Rattle.dimacs.specs.Model.{before_nought, among, holds, Refused, Accepted, Claimed, Unknown}
use Rattle.dimacs.specs.Lines.{literal_text, literals_text, clause_text, clauses_text, header_text}

abbrev literal_of : ℕ → Bool → Literal
literal_of v n = record { variable = v; negated = n }

abbrev job_a : List Clause
job_a = (literal_of 1 false ∷ literal_of 2 false ∷ []) ∷ (literal_of 2 false ∷ literal_of 3 false ∷ []) ∷ (literal_of 2 true ∷ literal_of 3 true ∷ []) ∷ []

pub record Worked : Type 0 where
  -- the model that job A has
  pub model_of_a : reply_of 3 job_a (115 ∷ 32 ∷ 83 ∷ 65 ∷ 84 ∷ 73 ∷ 83 ∷ 70 ∷ 73 ∷ 65 ∷ 66 ∷ 76 ∷ 69 ∷ 10 ∷ 118 ∷ 32 ∷ 45 ∷ 49 ∷ 32 ∷ 50 ∷ 32 ∷ 45 ∷ 51 ∷ 32 ∷ 48 ∷ 10 ∷ []) ≡ Accepted (literal_of 1 true ∷ literal_of 2 false ∷ literal_of 3 true ∷ [])
  -- the empty reply
  pub empty_reply : reply_of 3 job_a [] ≡ Refused 6 0
  -- no `v` line
  pub no_value_line : reply_of 3 job_a (115 ∷ 32 ∷ 83 ∷ 65 ∷ 84 ∷ 73 ∷ 83 ∷ 70 ∷ 73 ∷ 65 ∷ 66 ∷ 76 ∷ 69 ∷ 10 ∷ []) ≡ Refused 6 0
  -- a second `0`
  pub second_nought : reply_of 1 [] (115 ∷ 32 ∷ 83 ∷ 65 ∷ 84 ∷ 73 ∷ 83 ∷ 70 ∷ 73 ∷ 65 ∷ 66 ∷ 76 ∷ 69 ∷ 10 ∷ 118 ∷ 32 ∷ 49 ∷ 32 ∷ 48 ∷ 32 ∷ 48 ∷ 10 ∷ []) ≡ Refused 6 0
  -- `-0`
  pub minus_nought : reply_of 1 [] (115 ∷ 32 ∷ 83 ∷ 65 ∷ 84 ∷ 73 ∷ 83 ∷ 70 ∷ 73 ∷ 65 ∷ 66 ∷ 76 ∷ 69 ∷ 10 ∷ 118 ∷ 32 ∷ 49 ∷ 32 ∷ 45 ∷ 48 ∷ 10 ∷ []) ≡ Refused 6 2
  -- a leading zero, after a comment
  pub leading_zero : reply_of 1 [] (99 ∷ 10 ∷ 118 ∷ 32 ∷ 48 ∷ 49 ∷ 10 ∷ []) ≡ Refused 6 2
  -- a variable seen before
  pub seen_before : reply_of 2 [] (115 ∷ 32 ∷ 83 ∷ 65 ∷ 84 ∷ 73 ∷ 83 ∷ 70 ∷ 73 ∷ 65 ∷ 66 ∷ 76 ∷ 69 ∷ 10 ∷ 118 ∷ 32 ∷ 49 ∷ 32 ∷ 45 ∷ 49 ∷ 32 ∷ 48 ∷ 10 ∷ []) ≡ Refused 7 2
  -- a variable missing
  pub missing : reply_of 3 job_a (115 ∷ 32 ∷ 83 ∷ 65 ∷ 84 ∷ 73 ∷ 83 ∷ 70 ∷ 73 ∷ 65 ∷ 66 ∷ 76 ∷ 69 ∷ 10 ∷ 118 ∷ 32 ∷ 49 ∷ 32 ∷ 50 ∷ 32 ∷ 48 ∷ 10 ∷ []) ≡ Refused 7 3
  -- both variables of clause 3 held
  pub false_clause : reply_of 3 job_a (115 ∷ 32 ∷ 83 ∷ 65 ∷ 84 ∷ 73 ∷ 83 ∷ 70 ∷ 73 ∷ 65 ∷ 66 ∷ 76 ∷ 69 ∷ 10 ∷ 118 ∷ 32 ∷ 49 ∷ 32 ∷ 50 ∷ 32 ∷ 51 ∷ 32 ∷ 48 ∷ 10 ∷ []) ≡ Refused 8 3
  -- no connection
  pub no_connection : reply_of 0 [] (115 ∷ 32 ∷ 83 ∷ 65 ∷ 84 ∷ 73 ∷ 83 ∷ 70 ∷ 73 ∷ 65 ∷ 66 ∷ 76 ∷ 69 ∷ 10 ∷ 118 ∷ 32 ∷ 48 ∷ []) ≡ Accepted []
  -- UNSATISFIABLE
  pub unsatisfiable_claims : reply_of 3 job_a (115 ∷ 32 ∷ 85 ∷ 78 ∷ 83 ∷ 65 ∷ 84 ∷ 73 ∷ 83 ∷ 70 ∷ 73 ∷ 65 ∷ 66 ∷ 76 ∷ 69 ∷ 10 ∷ []) ≡ Claimed
  -- UNKNOWN
  pub unknown_stays : reply_of 3 job_a (115 ∷ 32 ∷ 85 ∷ 78 ∷ 75 ∷ 78 ∷ 79 ∷ 87 ∷ 78 ∷ 10 ∷ []) ≡ Unknown
  -- the lines of job A
  pub header_of_a : header_text 3 3 ≡ 112 ∷ 32 ∷ 99 ∷ 110 ∷ 102 ∷ 32 ∷ 51 ∷ 32 ∷ 51 ∷ 10 ∷ []
  pub clauses_of_a : clauses_text job_a ≡ 49 ∷ 32 ∷ 50 ∷ 32 ∷ 48 ∷ 10 ∷ 50 ∷ 32 ∷ 51 ∷ 32 ∷ 48 ∷ 10 ∷ 45 ∷ 50 ∷ 32 ∷ 45 ∷ 51 ∷ 32 ∷ 48 ∷ 10 ∷ []

pub worked : Worked
unfolding is_true makes first_false onto split kept lines same every is_number decimal unsigned negative is_literal literal text status_word status_line value_line tagged line_of first_bad statuses literals closed settle bad_first judged answer_of before_nought among first_wrong all_there place7 holds checked replied reply_of literal_text literals_text clause_text clauses_text header_text digits
worked = record { model_of_a = refl; empty_reply = refl; no_value_line = refl; second_nought = refl; minus_nought = refl; leading_zero = refl; seen_before = refl; missing = refl; false_clause = refl; no_connection = refl; unsatisfiable_claims = refl; unknown_stays = refl; header_of_a = refl; clauses_of_a = refl }
