-- The rows of an edit: none holds exactly if the edit is accepted, each holds at one place, and so one refusal at most is given. Assumes nothing.
use mathlib.Core.Path.{◌≡◌, refl, sym, ◌∙◌}
use mathlib.Core.Bool.{true, false, ◌&&◌}
use mathlib.Core.Logic.{inl, inr}
use mathlib.Core.List.{List}
use Prim.Native.Nat.{ℕ, ◌+◌}
use native.Mathlib.Omega.{arith}
use lib.ListN.{length}
use Rattle.facts.proofs.Bools.{not-both, true-by, false-by, and_both, and_left, and_right}
use Rattle.refusals.specs.Table.{before, Passes, Refuses, Sound}
use Rattle.refusals.proofs.Laws.{behind_row, refuses_left, refuses_right, passes_or, refuses_row, passes_row, sound_row, sound_front, nowhere-one}
use Rattle.channel.specs.Channel.{Connection}
use Rattle.loads.specs.Edits.{Edit, clear, add, drop, move, has_room, good, has_number, edit_rows, accepted}

module _ (n : ℕ) (cs : List Connection) where
  pub rows_sound : (e : Edit) → Sound (edit_rows n cs e)
  unfolding before
  rows_sound clear = record { listed = λ x p h. absurd h; one = λ x p q h k. absurd h }
  rows_sound (add c) = sound_front (omega arith) nowhere-one (behind_row (omega arith)) (sound_row 5 (omega arith) (λ p q g h. g.1 ∙ sym h.1))
  rows_sound (drop k) = sound_row 10 (omega arith) nowhere-one
  rows_sound (move k l r) = sound_front (omega arith) (λ p q g h. g.1 ∙ sym h.1) (behind_row (omega arith)) (sound_row 10 (omega arith) nowhere-one)

  pub passes_accepted : (e : Edit) → Passes (edit_rows n cs e) → accepted n cs e ≡ true
  unfolding accepted
  passes_accepted clear p = refl
  passes_accepted (add c) p = and_both (true-by (λ h. p 2 0 (inl (refl, (h, refl))))) (true-by (λ h. p 5 (length cs + 1) (inr (refl, (h, refl)))))
  passes_accepted (drop k) p = true-by (λ h. p 10 0 (refl, (h, refl)))
  passes_accepted (move k l r) p = and_both (true-by (λ h. p 5 k (inl (refl, (h, refl))))) (true-by (λ h. p 10 0 (inr (refl, (h, refl)))))

  pub refuses_accepted : (e : Edit) (num place : ℕ) → Refuses (edit_rows n cs e) num place → accepted n cs e ≡ false
  unfolding accepted
  refuses_accepted clear num place g = absurd g.holds
  refuses_accepted (add c) num place g = no g.holds
    where
      no : edit_rows n cs (add c) num place → (has_room cs && good n c.left c.right) ≡ false
      no (inl h) = false-by (λ a. not-both (and_left (has_room cs) _ a) h.1.0)
      no (inr h) = false-by (λ a. not-both (and_right (has_room cs) _ a) h.1.0)
  refuses_accepted (drop k) num place g = g.holds.1.0
  refuses_accepted (move k l r) num place g = no g.holds
    where
      no : edit_rows n cs (move k l r) num place → (good n l r && has_number cs k) ≡ false
      no (inl h) = false-by (λ a. not-both (and_left (good n l r) _ a) h.1.0)
      no (inr h) = false-by (λ a. not-both (and_right (good n l r) _ a) h.1.0)

  -- what decides, by the three tests
  pub full : (c : Connection) → has_room cs ≡ false → Refuses (edit_rows n cs (add c)) 2 0
  unfolding before
  full c h = refuses_left (refuses_row 2 0 (h, refl)) (behind_row (omega arith))

  pub bad : (c : Connection) → has_room cs ≡ true → good n c.left c.right ≡ false → Refuses (edit_rows n cs (add c)) 5 (length cs + 1)
  bad c r h = refuses_right (passes_row 2 (λ p g. not-both r g.0)) (refuses_row 5 (length cs + 1) (h, refl))

  pub bad_move : (k l r : ℕ) → good n l r ≡ false → Refuses (edit_rows n cs (move k l r)) 5 k
  unfolding before
  bad_move k l r h = refuses_left (refuses_row 5 k (h, refl)) (behind_row (omega arith))

  pub absent : (k : ℕ) → has_number cs k ≡ false → Refuses (edit_rows n cs (drop k)) 10 0
  absent k h = refuses_row 10 0 (h, refl)

  pub absent_move : (k l r : ℕ) → good n l r ≡ true → has_number cs k ≡ false → Refuses (edit_rows n cs (move k l r)) 10 0
  absent_move k l r g h = refuses_right (passes_row 5 (λ p b. not-both g b.0)) (refuses_row 10 0 (h, refl))

  pub accepted_passes : (e : Edit) → accepted n cs e ≡ true → Passes (edit_rows n cs e)
  unfolding accepted
  accepted_passes clear h = λ x p g. g
  accepted_passes (add c) h = passes_or (passes_row 2 (λ p g. not-both (and_left (has_room cs) _ h) g.0)) (passes_row 5 (λ p g. not-both (and_right (has_room cs) _ h) g.0))
  accepted_passes (drop k) h = passes_row 10 (λ p g. not-both h g.0)
  accepted_passes (move k l r) h = passes_or (passes_row 5 (λ p g. not-both (and_left (good n l r) _ h) g.0)) (passes_row 10 (λ p g. not-both (and_right (good n l r) _ h) g.0))
