-- The answers of a part's writer, one law for each way out; and that it has one answer only. Assumes nothing.
use mathlib.Core.Path.{◌≡◌, refl, ap, sym, ◌∙◌}
use mathlib.Core.List.{List}
use mathlib.Core.Logic.{inl, inr}
use Prim.Native.Nat.{ℕ, ◌≤◌, ◌<◌}
use native.Mathlib.Omega.{arith}
use lib.ListN.{length}
use Rattle.std.specs.Prelude.{Result, Ok, Err}
use Rattle.refusals.specs.Table.{row, nowhere, Refuses, Passes, Sound, FirstBroken, before}
use Rattle.refusals.specs.declared.Refusal.{Refusal}
use Rattle.refusals.specs.Refusal.{number_of}
use Rattle.refusals.proofs.Laws.{refuses_left, refuses_right, refuses_row, passes_row, passes_or, behind_row, sound_row, sound_front, sound_or, nowhere-one, broken_one, refused_one}
use Rattle.channel.specs.Limits.{most_connections}
use Rattle.jobfile.specs.Rows.{ConnectionKept}
use Rattle.part.specs.Part.{Part, tracks_in}
use Rattle.part.specs.Writes.{count_of, Takes, file_of, part_rows, writer_rows, Writes}

module _ (p : Part) (bytes : List ℕ) (k lent : ℕ) where
  pub answer_2 : (Takes p.columns (tracks_in p.table) (length bytes) k → ⊥) → Refuses (writer_rows p bytes k lent) 2 0
  unfolding before
  answer_2 h = refuses_left (refuses_left (refuses_row 2 0 (h, refl)) (behind_row (omega arith))) (behind_row (omega arith))

  -- more than the most connections are refused by 2, however many they are: their number is not cut to a byte
  pub many_refused : most_connections < count_of bytes → Refuses (writer_rows p bytes k lent) 2 0
  many_refused h = answer_2 (λ t. omega (arith, t.limits.m_high))

  module _ (takes : Takes p.columns (tracks_in p.table) (length bytes) k) where
    pass_2 : Passes (row 2 (nowhere (Takes p.columns (tracks_in p.table) (length bytes) k → ⊥)))
    pass_2 = passes_row 2 (λ q h. h.0 takes)

    pub answer_5 : (bad : ℕ) → FirstBroken (ConnectionKept bytes p.columns 0 (count_of bytes)) bad → Refuses (writer_rows p bytes k lent) 5 bad
    unfolding before
    answer_5 bad broken = refuses_left (refuses_right pass_2 (refuses_row 5 bad broken)) (behind_row (omega arith))

    module _ (kept : (i : ℕ) → ConnectionKept bytes p.columns 0 (count_of bytes) i) where
      pub part_passes : Passes (part_rows p bytes k)
      part_passes = passes_or pass_2 (passes_row 5 (λ q h. h.broken (kept h.index)))

      pub answer_9 : lent < length (file_of p bytes k) → Refuses (writer_rows p bytes k lent) 9 0
      answer_9 l = refuses_right part_passes (refuses_row 9 0 (l, refl))

      pub answer_file : length (file_of p bytes k) ≤ lent → Passes (writer_rows p bytes k lent)
      answer_file l = passes_or part_passes (passes_row 9 (λ q h. omega (arith, h.0)))

  pub part_sound : Sound (part_rows p bytes k)
  unfolding before
  part_sound = sound_front (omega arith) nowhere-one (behind_row (omega arith)) (sound_row 5 (omega arith) broken_one)

  pub writer_sound : Sound (writer_rows p bytes k lent)
  unfolding before
  writer_sound = sound_or part_sound (sound_row 9 (omega arith) nowhere-one) (λ x a b g h. apart x a h.0 g)
    where
      apart : (x a : ℕ) → x ≡ 9 → part_rows p bytes k x a → ⊥
      apart x a e (inl g) = omega (arith, g.0)
      apart x a e (inr g) = omega (arith, g.0)

-- any two answers are equal, and so are the bytes that they leave
pub writes_one : (p : Part) (bytes : List ℕ) (k : ℕ) (old : List ℕ) (r s : Result ℕ Refusal) (new new' : List ℕ) → Writes p bytes k old r new → Writes p bytes k old s new' → (r ≡ s) × (new ≡ new')
writes_one p bytes k old (Ok a) (Ok b) new new' g h = (ap Ok (g.1.next ∙ sym h.1.next), g.1.is ∙ sym h.1.is)
writes_one p bytes k old (Ok a) (Err b) new new' g h = absurd (g.0 (number_of b.reason) b.place h.0.holds)
writes_one p bytes k old (Err a) (Ok b) new new' g h = absurd (h.0 (number_of a.reason) a.place g.0.holds)
writes_one p bytes k old (Err a) (Err b) new new' g h = (ap Err (refused_one (writer_sound p bytes k (length old)) a b g.0 h.0), g.1 ∙ sym h.1)
