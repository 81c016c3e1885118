-- Any two answers that the contract of `line` allows are equal, and so is what they leave in the buffer: stated of the contract as the checker reads it. Assumes nothing.
use mathlib.Core.Path.{◌≡◌, refl, ap, sym, ◌∙◌, subst}
use mathlib.Core.List.{List}
use mathlib.Core.Logic.{inl, inr, ◌↔◌}
use Prim.Native.Nat.{ℕ, ◌<◌}
use native.Mathlib.Omega.{arith}
use lib.ListN.{length}
use contract.Lifetimes.{Lfts}
use borrow.Fn.World.{ArgsD, ResD}
use borrow.Fn.Kinds.{ended_of}
use denote.Triple.Clauses.{AtExit}
use Rattle.facts.proofs.Bools.{never}
use Rattle.std.specs.Prelude.{Result, Ok, Err}
use Rattle.refusals.specs.declared.Refusal.{Refusal}
use Rattle.refusals.specs.Refusal.{number_of}
use Rattle.refusals.specs.Table.{before, row, ◌or◌, nowhere, room_row, Passes, Sound, line as at}
use Rattle.refusals.proofs.Laws.{refused_one, sound_or, sound_front, sound_row, nowhere-one, behind_row, passes_or, passes_row}
use Rattle.text.specs.Text.{Wrote}
use Rattle.jobfile.specs.Rows.{file_rows, job_of}
use Rattle.jobfile.proofs.Exact.{file_sound, job_is, facts_of, facts_pass}
use Rattle.clauses.specs.Clauses.{clause_count}
use Rattle.lines.specs.Lined.{most_line, line_text}
use Rattle.lines.specs.Writes.{line_rows, WrittenLine, WritesLine}
use Rattle.lines.proofs.Answers.{file_early}
use Rattle.lines.specs.contracts.line as line
use Rattle.lines.proofs.line.Kinds as kinds
use Rattle.lines.proofs.line.Reads as reads

-- each row holds at one place at most
pub line_sound : (f : List ℕ) (lent number : ℕ) → Sound (line_rows f lent number)
unfolding before
line_sound f lent number = sound_or (file_sound f) (sound_front (omega arith) nowhere-one (behind_row (omega arith)) (sound_row 10 (omega arith) nowhere-one)) apart
  where
    apart : (x p q : ℕ) → file_rows f x p → (room_row most_line lent or row 10 (nowhere (clause_count (job_of f) < number))) x q → ⊥
    apart x p q g (inl h) = let a = file_early f x p g in let e : at x ≡ 5 = ap at h.0 in omega arith
    apart x p q g (inr h) = let a = file_early f x p g in let e : at x ≡ 9 = ap at h.0 in omega arith

module _ (f : List ℕ) (number : ℕ) (old : List ℕ) where
  -- no row holds where a line is written
  pub written_passes : (new : List ℕ) (k : ℕ) → WrittenLine f number old new k → Passes (line_rows f (length old) number)
  written_passes new k w =
      let c = w.counted in
      let r = w.room in
      let e : clause_count w.job ≡ clause_count (job_of f) = ap clause_count (job_is f w.job w.of_file) in
      passes_or (facts_pass f (facts_of f w.job w.of_file)) (passes_or (passes_row 9 (λ p h. let z = h.0 in omega arith)) (passes_row 10 (λ p h. let z = h.0 in omega arith)))

  pub writes_one : (r r' : Result ℕ Refusal) (new new' : List ℕ) → WritesLine f number old r new → WritesLine f number old r' new' → (r ≡ r') × (new ≡ new')
  writes_one (Ok k) (Ok k') new new' p q =
      let e : line_text p.job number ≡ line_text q.job number = ap (λ j. line_text j number) (job_is f p.job p.of_file ∙ sym (job_is f q.job q.of_file)) in
      let w = subst (λ t. Wrote old 0 t new k) e p.wrote in
      (ap Ok (w.next ∙ sym q.wrote.next), w.is ∙ sym q.wrote.is)
  writes_one (Ok k) (Err s) new new' p q = absurd (written_passes new k p _ _ q.0.holds)
  writes_one (Err r) (Ok k) new new' p q = absurd (written_passes new' k q _ _ p.0.holds)
  writes_one (Err r) (Err s) new new' p q = (ap Err (refused_one (line_sound f (length old) number) r s p.0 q.0), p.1 ∙ sym q.1)

  -- a refusal is given exactly if a row holds
  pub row_exactly : (r : Result ℕ Refusal) (new : List ℕ) → WritesLine f number old r new → ((a : Refusal) × (r ≡ Err a)) ↔ ((x : ℕ) × (p : ℕ) × line_rows f (length old) number x p)
  row_exactly (Ok k) new w = (λ h. never (cc h.1), λ h. absurd (written_passes new k w h.0 h.1 h.2))
  row_exactly (Err a) new w = (λ h. (number_of a.reason, a.place, w.0.holds), λ h. (a, refl))

pub one_answer : (κs : Lfts 2) (a : ArgsD line.signature κs) (r r' : ResD line.signature κs) (x x' : AtExit (ended_of 2 kinds.ps kinds.r) κs)
    → reads.Post κs a r x → reads.Post κs a r' x' → (r ≡ r') × (x.1.1.0.now ≡ x'.1.1.0.now)
one_answer κs a r r' x x' p q = writes_one _ _ _ r r' _ _ p q
