-- A reply has one answer: rows 6, 7 and 8 each hold at one place at most, so any two answers that `Means` allows are equal; and a reply is
-- accepted exactly if it is well-formed with `s SATISFIABLE` and its literals are a model. Assumes nothing.
use mathlib.Core.Path.{◌≡◌, refl, sym, ap, subst, ◌∙◌}
use mathlib.Core.List.{List, [], ◌∷◌}
use mathlib.Core.Logic.{inl, inr}
use Prim.Native.Nat.{ℕ}
use native.Mathlib.Omega.{arith}
use lib.ListN.{length, length-map}
use borrow.Author.Tests.{leb-true}
use Rattle.refusals.specs.Table.{FirstBroken, Sound}
use Rattle.refusals.proofs.Laws.{behind_row, behind_or, sound_row, sound_front, broken_one, decided_one, printed_order}
use Rattle.dimacs.specs.Clause.{Literal, Clause}
use Rattle.dimacs.specs.Reply.{Status, satisfiable, unsatisfiable, unknown, statuses}
use Rattle.dimacs.specs.Model.{variables, holds, Reply, Refused, Accepted}
use Rattle.dimacs.specs.Refusals.{lines_in, GivesModel, Unfit, MadeTrue, row6, row7, row8, reply_rows, IsModel, Means, is_refused, is_accepted, is_claimed, is_unknown}
use Rattle.dimacs.specs.Decision.{reply_of}
use Rattle.dimacs.proofs.Meaning.{gives_one, reply_means, model_passes, none_wrong, none_missing, passed_model}
use Rattle.dimacs.proofs.Missing.{missing, at_most}
use Rattle.dimacs.proofs.Positive.{gives_pos}

module _ (t : List ℕ) where
  one_6 : (p q : ℕ) → row6 t 6 p → row6 t 6 q → p ≡ q
  one_6 p q (e, inl b) (f, inl c) = broken_one p q b c
  one_6 p q (e, inl b) (f, inr c) = absurd (b.broken (c.0.0 b.index))
  one_6 p q (e, inr b) (f, inl c) = absurd (c.broken (b.0.0 c.index))
  one_6 p q (e, inr b) (f, inr c) = b.1 ∙ sym c.1

  one_7 : (n p q : ℕ) → row7 n t 7 p → row7 n t 7 q → p ≡ q
  one_7 n p q (e, (xs, g, b)) (f, (ys, h, c)) = go b (subst (λ z. Unfit n z q) (gives_one t ys xs h g) c)
    where
      go : Unfit n xs p → Unfit n xs q → p ≡ q
      go (inl b) (inl c) = broken_one p q b c
      go (inl b) (inr c) = absurd (b.broken (c.0 b.index))
      go (inr b) (inl c) = absurd (c.broken (b.0 c.index))
      go (inr b) (inr c) = b.2 ∙ sym c.2

  one_8 : (cs : List Clause) (p q : ℕ) → row8 cs t 8 p → row8 cs t 8 q → p ≡ q
  one_8 cs p q (e, (xs, g, b)) (f, (ys, h, c)) = broken_one p q b (subst (λ z. FirstBroken (MadeTrue (holds z) cs) q) (gives_one t ys xs h g) c)

module _ (n : ℕ) (cs : List Clause) (t : List ℕ) where
  -- every row holds at one place at most
  pub reply_sound : Sound (reply_rows n cs t)
  reply_sound =
      sound_front (omega (arith, printed_order)) (λ p q g h. one_6 t p q (refl, g) (refl, h)) (behind_or (behind_row (omega (arith, printed_order))) (behind_row (omega (arith, printed_order))))
      (sound_front (omega (arith, printed_order)) (λ p q g h. one_7 t n p q (refl, g) (refl, h)) (behind_row (omega (arith, printed_order)))
      (sound_row 8 (omega (arith, printed_order)) (λ p q g h. one_8 t cs p q (refl, g) (refl, h))))

  -- one text has not two different `s` lines
  number : Status → ℕ
  number satisfiable = 0
  number unsatisfiable = 1
  number unknown = 2

  differ : (s s' : Status) → (number s ≡ number s' → ⊥) → statuses (lines_in t) ≡ s ∷ [] → statuses (lines_in t) ≡ s' ∷ [] → ⊥
  differ s s' n e f = n (let z : s ≡ s' = cc in ap number z)

  -- any two answers are equal
  pub means_one : {a b : Reply} → Means n cs t a → Means n cs t b → a ≡ b
  unfolding number
  means_one (is_refused m p g) (is_refused k q h) = let d = decided_one reply_sound g h in (λ i. Refused (d.0 i) (d.1 i))
  means_one (is_refused m p g) (is_accepted ys h q) = absurd (q m p g.holds)
  means_one (is_refused m p g) (is_claimed h q) = absurd (q m p g.holds)
  means_one (is_refused m p g) (is_unknown h q) = absurd (q m p g.holds)
  means_one (is_accepted xs g p) (is_refused k q h) = absurd (p k q h.holds)
  means_one (is_accepted xs g p) (is_accepted ys h q) = ap Accepted (gives_one t xs ys g h)
  means_one (is_accepted xs g p) (is_claimed h q) = absurd (differ satisfiable unsatisfiable (λ z. omega arith) g.status_lines h.status_lines)
  means_one (is_accepted xs g p) (is_unknown h q) = absurd (differ satisfiable unknown (λ z. omega arith) g.status_lines h.status_lines)
  means_one (is_claimed g p) (is_refused k q h) = absurd (p k q h.holds)
  means_one (is_claimed g p) (is_accepted ys h q) = absurd (differ unsatisfiable satisfiable (λ z. omega arith) g.status_lines h.status_lines)
  means_one (is_claimed g p) (is_claimed h q) = refl
  means_one (is_claimed g p) (is_unknown h q) = absurd (differ unsatisfiable unknown (λ z. omega arith) g.status_lines h.status_lines)
  means_one (is_unknown g p) (is_refused k q h) = absurd (p k q h.holds)
  means_one (is_unknown g p) (is_accepted ys h q) = absurd (differ unknown satisfiable (λ z. omega arith) g.status_lines h.status_lines)
  means_one (is_unknown g p) (is_claimed h q) = absurd (differ unknown unsatisfiable (λ z. omega arith) g.status_lines h.status_lines)
  means_one (is_unknown g p) (is_unknown h q) = refl

  -- what is so is the answer
  pub means_is : {a : Reply} → Means n cs t a → reply_of n cs t ≡ a
  means_is m = means_one (reply_means n cs t) m

-- an accepted reply is well-formed with `s SATISFIABLE`, and its literals are a model
pub accepted_model : (n : ℕ) (cs : List Clause) (t : List ℕ) (xs : List Literal) → reply_of n cs t ≡ Accepted xs → GivesModel t xs × IsModel n cs xs × (length xs ≡ n)
accepted_model n cs t xs e = go (subst (Means n cs t) e (reply_means n cs t))
  where
    go : Means n cs t (Accepted xs) → GivesModel t xs × IsModel n cs xs × (length xs ≡ n)
    go (is_accepted ys g p) =
        let vs = variables xs in
        let pos = gives_pos t xs g in
        let w = none_wrong n cs t xs g p in
        let a = at_most n vs pos w in
        let b = leb-true n (length vs) (sym (missing n vs pos w) ∙ none_missing n cs t xs g p) in
        let l = length-map xs (λ x. x.variable) in
        (g, passed_model n cs t xs g p, omega arith)

-- and a text that is so is accepted
pub model_accepted : (n : ℕ) (cs : List Clause) (t : List ℕ) (xs : List Literal) → GivesModel t xs → IsModel n cs xs → reply_of n cs t ≡ Accepted xs
model_accepted n cs t xs g m = means_is n cs t (is_accepted xs g (model_passes n cs t xs g m))
