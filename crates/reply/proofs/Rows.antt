-- The rows that fit a reply: how a decision of the file's rows, of row 9 or of the text's rows is one of them all. Assumes nothing.
use mathlib.Core.Path.{refl}
use mathlib.Core.List.{List}
use mathlib.Core.Logic.{inl, inr}
use Prim.Native.Nat.{ℕ, ◌≤◌, ◌<◌}
use native.Mathlib.Omega.{arith}
use native.Mathlib.Decide.{dec_le}
use Rattle.facts.proofs.Bools.{sure}
use Rattle.refusals.specs.Table.{line, Rows, ◌or◌, room_row, Refuses, Passes, Sound}
use Rattle.refusals.proofs.Laws.{Behind, behind_row, behind_or, refuses_left, refuses_right, refuses_row, passes_or, passes_row, sound_or, sound_front, nowhere-one, printed_order}
use Rattle.dimacs.specs.Clause.{Clause}
use Rattle.dimacs.specs.Refusals.{reply_rows}
use Rattle.dimacs.proofs.Decided.{reply_sound}
use Rattle.jobfile.specs.Rows.{file_rows, m_of, job_of}
use Rattle.jobfile.proofs.Exact.{file_sound, file-before}
use Rattle.clauses.specs.Clauses.{clauses, variable_count}
use Rattle.reply.specs.Replies.{reply_call}

-- the text's rows stand behind row 9
pub text_behind : (k n : ℕ) (cs : List Clause) (t : List ℕ) → k ≤ line 6 → Behind k (reply_rows n cs t)
text_behind k n cs t l = behind_or (behind_row l) (behind_or (behind_row (omega (arith, printed_order))) (behind_row (omega (arith, printed_order))))

module _ (f : List ℕ) (lent : ℕ) (t : List ℕ) where
  abbrev of_text : Rows
  of_text = reply_rows (variable_count (job_of f)) (clauses (job_of f)) t

  rest_behind : (k : ℕ) → k ≤ line 9 → Behind k (room_row (m_of f) lent or of_text)
  rest_behind k l = behind_or (behind_row l) (text_behind k (variable_count (job_of f)) (clauses (job_of f)) t (omega (arith, printed_order)))

  pub refused_file : (num place : ℕ) → Refuses (file_rows f) num place → Refuses (reply_call f lent t) num place
  refused_file num place g = refuses_left g (rest_behind (line num) (let l = file-before f num place g.holds in omega arith))

  pub refused_room : Passes (file_rows f) → lent < m_of f → Refuses (reply_call f lent t) 9 0
  refused_room n h = refuses_right n (refuses_left (refuses_row 9 0 (h, refl)) (text_behind (line 9) (variable_count (job_of f)) (clauses (job_of f)) t (omega (arith, printed_order))))

  module _ (n : Passes (file_rows f)) (r : m_of f ≤ lent) where
    pass_room : Passes (room_row (m_of f) lent)
    pass_room = passes_row 9 (λ p h. let z = h.0 in omega arith)

    pub refused_text_lem : (num place : ℕ) → Refuses of_text num place → Refuses (reply_call f lent t) num place
    refused_text_lem num place g = refuses_right n (refuses_right pass_room g)

    pub passes_text : Passes of_text → Passes (reply_call f lent t)
    passes_text g = passes_or n (passes_or pass_room g)

    -- where the file and the buffer pass, the text's rows decide
    pub text_decides : (num place : ℕ) → Refuses (reply_call f lent t) num place → Refuses of_text num place
    text_decides num place g = record { holds = go g.holds; first = λ x p h. g.first x p (inr (inr h)) }
      where
        go : reply_call f lent t num place → of_text num place
        go (inl h) = absurd (n num place h)
        go (inr (inl h)) = absurd (pass_room num place h)
        go (inr (inr h)) = h

  pub call_sound : Sound (reply_call f lent t)
  call_sound =
      sound_or (file_sound f) (sound_front (omega (arith, printed_order)) nowhere-one (text_behind _ (variable_count (job_of f)) (clauses (job_of f)) t (omega (arith, printed_order))) (reply_sound (variable_count (job_of f)) (clauses (job_of f)) t))
      (λ x p q a b. let l = file-before f x p a in let m = (rest_behind (line 9) (omega arith)).at x q b in omega arith)

  -- no row of a call that passes
  pub call_room : Passes (reply_call f lent t) → m_of f ≤ lent
  call_room g = sure (dec_le _ _) (λ l. g 9 0 (inr (inl (refl, (omega arith, refl)))))
