-- Laws of the lines: the rows that fit the call and one law for each way out; any two answers are equal; when lines are written, and where they stand.
-- Assumes nothing.
use mathlib.Core.Path.{◌≡◌, refl, ap, sym, subst, ◌∙◌}
use mathlib.Core.List.{List, ◌++◌}
use mathlib.Core.Logic.{inl, inr, ◌↔◌}
use Prim.Native.Nat.{ℕ, zero, suc, ◌+◌, ◌*◌, ◌≤◌, ◌<◌}
use native.Mathlib.Omega.{arith}
use lib.ListN.{length, get_or, drop, length-append}
use Rattle.std.specs.Prelude.{Result, Ok, Err}
use Rattle.refusals.specs.Table.{before, line, Refuses, Passes, Sound}
use Rattle.refusals.specs.declared.Refusal.{Refusal}
use Rattle.refusals.specs.Refusal.{number_of, RefusedBy}
use Rattle.refusals.proofs.Laws.{refuses_left, behind_row, passes_or, passes_row, sound_or, sound_row, nowhere-one, refused_one, printed_order}
use Rattle.text.specs.Text.{Wrote}
use Rattle.text.proofs.Writing.{digits-length, front}
use Rattle.channel.specs.Channel.{Job, M, occupied_by, track_at, connection_at}
use Rattle.channel.specs.Routing.{Routing}
use Rattle.jobfile.specs.Rows.{file_rows, m_of, job_of}
use Rattle.jobfile.specs.Reads.{FileOf}
use Rattle.jobfile.specs.Facts.{Facts}
use Rattle.jobfile.proofs.Exact.{job_numbers, facts_of, facts_pass, job_is, file-before}
use Rattle.judge.specs.Judges.{judge_rows}
use Rattle.judge.proofs.Laws as judge
use Rattle.rows.specs.Rows.{row_room, first_of, last_of, row_text, rows_text}
use Rattle.rows.specs.Lines.{lines_rows, Lines}

-- a line is no longer than the room for it, and so are n lines
row-length : (i l a e : ℕ) → length (row_text i l a e) ≤ row_room
unfolding row_text
row-length i l a e = simp length-append (omega (arith, digits-length 2 i, digits-length 2 l, digits-length 2 a, digits-length 2 e))

pub rows_length : (j : Job) (q : List ℕ) (n : ℕ) → length (rows_text j q n) ≤ n * row_room
unfolding rows_text
rows_length j q zero = omega arith
rows_length j q (suc n) =
    let ks : List ℕ = occupied_by (track_at j.tracks (get_or q n 0)) (connection_at j.connections n) in
    simp length-append (omega (arith, rows_length j q n, row-length (n + 1) (get_or q n 0) (first_of ks) (last_of ks)))

module _ (f q : List ℕ) where
  -- 9 is no row of the judge
  judge_apart : (x p : ℕ) → judge_rows f q x p → x ≡ 9 → ⊥
  judge_apart x p (inl a) e = let l = ap line e in omega (arith, file-before f x p a)
  judge_apart x p (inr b) e = let l = ap line e in let k = ap line b.0 in omega (arith, printed_order)

  pub lines_sound : (lent : ℕ) → Sound (lines_rows f q lent)
  unfolding before
  lines_sound lent = sound_or (judge.judge_sound f q) (sound_row 9 (omega arith) nowhere-one) (λ x p s a b. judge_apart x p a b.0)

  -- the refusals, one law for each way out: the file's, then 9, then the judge's
  pub by_file : (lent num place : ℕ) → Refuses (file_rows f) num place → Refuses (lines_rows f q lent) num place
  by_file lent num place r = refuses_left (judge.by_file f q num place r) (behind_row (let l = file-before f num place r.holds in omega arith))

  pub by_room : (lent : ℕ) → Facts f → lent < m_of f * row_room → Refuses (lines_rows f q lent) 9 0
  by_room lent g h = record { holds = inr (refl, (h, refl)); first = earlier }
    where
      earlier : (x p : ℕ) → lines_rows f q lent x p → line 9 ≤ line x
      earlier x p (inl (inl a)) = absurd (facts_pass f g x p a)
      earlier x p (inl (inr b)) = let e = ap line b.0 in omega (arith, printed_order)
      earlier x p (inr b) = let e = ap line b.0 in omega arith

  pub by_judge : (lent : ℕ) → m_of f * row_room ≤ lent → (num place : ℕ) → Refuses (judge_rows f q) num place → Refuses (lines_rows f q lent) num place
  by_judge lent h num place g = refuses_left g (record { at = λ x p r. absurd (let l = r.1.0 in omega arith) })

  pub by_legal : (old new : List ℕ) (n : ℕ) → FileOf f (job_of f) → Routing (job_of f) q → m_of f * row_room ≤ length old → Wrote old 0 (rows_text (job_of f) q (length q)) new n → Lines f q old (Ok n) new
  by_legal old new n g r h w = record { job = job_of f; of_file = g; routing = r; room = rw (job_numbers f).m_is at h; wrote = rw r.whole at w }

  module _ (old : List ℕ) where
    -- a routing of the file's job, and room for its lines: no row holds, the answer is the length of the lines, and they stand at the front of the buffer before the rest of it
    module _ (j : Job) (g : FileOf f j) (r : Routing j q) (room : M j * row_room ≤ length old) where
      routing_passes : Passes (lines_rows f q (length old))
      routing_passes =
          let e = job_is f j g in
          let m : M j ≡ m_of f = ap M e ∙ sym (job_numbers f).m_is in
          passes_or (judge.passes f q (facts_of f j g) (subst (λ (i : Job). Routing i q) e r)) (passes_row 9 (λ p h. let l = h.0 in omega arith))

      pub text_is : (a : Result ℕ Refusal) (new : List ℕ) → Lines f q old a new → let t = rows_text j q (M j) in (a ≡ Ok (length t)) × (new ≡ t ++ drop (length t) old)
      text_is (Ok n) new h =
          let e : h.job ≡ j = job_is f h.job h.of_file ∙ sym (job_is f j g) in
          let w = subst (λ (i : Job). Wrote old 0 (rows_text i q (M i)) new n) e h.wrote in
          (ap Ok (omega (arith, w.next)), front (omega (arith, rows_length j q (M j))) w)
      text_is (Err r) new h = absurd (routing_passes (number_of r.reason) r.place h.0.holds)

      text-one : (a b : Result ℕ Refusal) (new new' : List ℕ) → Lines f q old a new → Lines f q old b new' → (a ≡ b) × (new ≡ new')
      text-one a b new new' h k = let x = text_is a new h in let y = text_is b new' k in (x.0 ∙ sym y.0, x.1 ∙ sym y.1)

    -- any two answers are equal, and so is what they leave of the buffer
    pub lines-one : (a b : Result ℕ Refusal) (new new' : List ℕ) → Lines f q old a new → Lines f q old b new' → (a ≡ b) × (new ≡ new')
    lines-one (Ok n) b new new' g h = text-one g.job g.of_file g.routing g.room (Ok n) b new new' g h
    lines-one (Err r) (Ok n) new new' g h = text-one h.job h.of_file h.routing h.room (Err r) (Ok n) new new' g h
    lines-one (Err r) (Err s) new new' g h = (ap Err (refused_one (lines_sound (length old)) r s g.0 h.0), g.1 ∙ sym h.1)

    -- what is answered, exactly: lines if the labels are a routing of the job that the file is of and there is room for them
    pub text_exactly : (a : Result ℕ Refusal) (new : List ℕ) → Lines f q old a new → ((n : ℕ) × (a ≡ Ok n)) ↔ ((j : Job) × FileOf f j × Routing j q × (M j * row_room ≤ length old))
    text_exactly a new g = (λ h. let w = subst (λ (b : Result ℕ Refusal). Lines f q old b new) h.1 g in (w.job, w.of_file, w.routing, w.room), λ h. (_, (text_is h.0 h.1 h.2 h.3 a new g).0))

    pub refused_exactly : (a : Result ℕ Refusal) (new : List ℕ) → Lines f q old a new → (r : Refusal) → (a ≡ Err r) ↔ RefusedBy (lines_rows f q (length old)) r
    refused_exactly a new g r = (λ e. (subst (λ (b : Result ℕ Refusal). Lines f q old b new) e g).0, λ h. (lines-one a (Err r) new old g (h, refl)).0)
