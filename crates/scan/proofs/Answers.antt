-- What a reading decides: the answer of `reply_of` by the answer of row 6, the first wrong position, the count of literals and the marks.
-- Missing variables are a matter of counting (`reply_missing`). Assumes nothing.
use mathlib.Core.Path.{◌≡◌, refl, sym, ap, subst, ◌∙◌}
use mathlib.Core.Bool.{Bool, true, false, cond, not, ◌||◌}
use mathlib.Core.List.{List, [], ◌∷◌}
use Prim.Native.Nat.{ℕ, zero, suc, ◌+◌, ◌≤◌, ◌<◌}
use native.Mathlib.Omega.{arith}
use lib.Dec.{eqb, leb}
use lib.ListN.{length, get_or, length-map}
use borrow.Author.Tests.{le-leb, lt-leb}
use Rattle.std.specs.Prelude.{Option, Some, None, Result, Ok, Err}
use Rattle.facts.proofs.Bools.{not-both}
use Rattle.dimacs.specs.Clause.{Literal, Clause}
use Rattle.dimacs.specs.Reply.{Word}
use Rattle.dimacs.specs.Model.{before_nought, among, variables, holds}
use Rattle.dimacs.specs.Model.{Refused as RefusedBy, Claimed as ClaimedAs, Unknown as UnknownAs}
use Rattle.dimacs.specs.Decision.{Parsed, Refused6, Unsat, Unsure, answer_of, Sat as SatAs, first_wrong, all_there, place7, checked, replied, reply_of}
use Rattle.dimacs.proofs.Meaning.{place7_wrong, place7_missing, place7-none, checked_7}
use Rattle.dimacs.proofs.Positive.{reply_missing}
use Rattle.dimacs.proofs.Searches.{all_there_lem}
use Rattle.scan.specs.declared.Answer.{Answer}
use Rattle.scan.specs.declared.Answer.TheVariants.{Claimed, Unknown, Sat}
use Rattle.scan.specs.Marks.{brief, mark_of, place_of, Done}

-- the mark of a variable that is among the literals: 1 where the model holds it, 2 where not
mark_holds : (xs : List Literal) (v : ℕ) → among v (variables xs) ≡ true → mark_of xs v ≡ cond (holds xs v) 1 2
unfolding mark_of holds among
mark_holds [] v h = not-both h refl
mark_holds (x ∷ xs) v h = go (eqb v x.variable) x.negated (mark_holds xs v) h
  where
    go : (a n : Bool) → (among v (variables xs) ≡ true → mark_of xs v ≡ cond (holds xs v) 1 2) → (a || among v (variables xs)) ≡ true → cond a (cond n 2 1) (mark_of xs v) ≡ cond (cond a (not n) (holds xs v)) 1 2
    go true true r h = refl
    go true false r h = refl
    go false n r h = r h

-- the marks are those of the literals
pub record ModelMarks (top : ℕ) (seen : List ℕ) (xs : List Literal) : Type 0 where
  pub many : top ≤ length xs
  pub mark : (v : ℕ) → 1 ≤ v → v ≤ top → get_or seen v 0 ≡ cond (holds xs v) 1 2

-- the answer of row 6 tells what the text says
abbrev ParsedAs : Result Answer ℕ → Parsed → Type 0
ParsedAs (Err p) a = a ≡ Refused6 p
ParsedAs (Ok Claimed) a = a ≡ Unsat
ParsedAs (Ok Unknown) a = a ≡ Unsure
ParsedAs (Ok (Sat k)) a = (zs : List Word) × (a ≡ SatAs zs) × (k ≡ length (before_nought zs))

brief_parsed : (a : Parsed) → ParsedAs (brief a) a
unfolding brief
brief_parsed (Refused6 p) = refl
brief_parsed (SatAs zs) = (zs, refl, refl)
brief_parsed Unsat = refl
brief_parsed Unsure = refl

place_some : (n p : ℕ) → place_of n ≡ Some p → (n ≡ p) × (p ≡ 0 → ⊥)
place_some zero p e = cc
place_some (suc n) p e = let k : suc n ≡ p = cc in (k, λ z. absurd (omega arith))

place-none : (n : ℕ) → place_of n ≡ None → n ≡ 0
place-none zero e = refl
place-none (suc n) e = cc

module _ (text : List ℕ) (top : ℕ) (answer : Result Answer ℕ) (wrong : Option ℕ) (seen : List ℕ) (d : Done text top answer wrong seen) (cs : List Clause) where
  parsed : {x : Result Answer ℕ} → answer ≡ x → ParsedAs x (answer_of text)
  parsed e = subst (λ x. ParsedAs x (answer_of text)) (sym d.says_answer ∙ e) (brief_parsed (answer_of text))

  pub reads_refused : (p : ℕ) → answer ≡ Err p → reply_of top cs text ≡ RefusedBy 6 p
  unfolding reply_of replied
  reads_refused p e = ap (replied top cs) (parsed e)

  pub reads_claimed : answer ≡ Ok Claimed → reply_of top cs text ≡ ClaimedAs
  unfolding reply_of replied
  reads_claimed e = ap (replied top cs) (parsed e)

  pub reads_unknown : answer ≡ Ok Unknown → reply_of top cs text ≡ UnknownAs
  unfolding reply_of replied
  reads_unknown e = ap (replied top cs) (parsed e)

  module _ (k : ℕ) (e : answer ≡ Ok (Sat k)) where
    abbrev zs : List Word
    zs = (parsed e).0

    abbrev xs : List Literal
    xs = before_nought zs

    says : answer_of text ≡ SatAs zs
    says = (parsed e).1

    replied_is : reply_of top cs text ≡ checked top cs xs
    unfolding reply_of replied
    replied_is = ap (replied top cs) says

    count_is : length (variables xs) ≡ k
    count_is = length-map xs (λ x. x.variable) ∙ sym (parsed e).2

    -- a variable above V or seen before
    pub reads_wrong : (p : ℕ) → wrong ≡ Some p → reply_of top cs text ≡ RefusedBy 7 p
    reads_wrong p w =
        let f = place_some (first_wrong top [] 1 (variables xs)) p (sym (d.first zs says) ∙ w) in
        replied_is ∙ checked_7 top cs xs p (place7_wrong top (variables xs) (λ g. f.1 (sym f.0 ∙ g)) ∙ f.0) f.1

    module _ (w : wrong ≡ None) where
      none_wrong : first_wrong top [] 1 (variables xs) ≡ 0
      none_wrong = place-none (first_wrong top [] 1 (variables xs)) (sym (d.first zs says) ∙ w)

      counts : all_there top (variables xs) ≡ leb top k
      counts = reply_missing text zs top says none_wrong ∙ ap (leb top) count_is

      -- variables missing
      pub reads_missing : k < top → reply_of top cs text ≡ RefusedBy 7 (k + 1)
      reads_missing h =
          replied_is
          ∙ checked_7 top cs xs (k + 1) (place7_missing top (variables xs) none_wrong (counts ∙ lt-leb top k h) ∙ ap (λ n. n + 1) count_is) (λ z. absurd (omega arith))

      -- each variable is there: row 8 decides, and the marks are the model
      pub reads_model : top ≤ k → (ys : List Literal) × (place7 top (variables ys) ≡ 0) × (reply_of top cs text ≡ checked top cs ys) × ModelMarks top seen ys
      reads_model h =
          let a = counts ∙ le-leb top k h in
          let l = (parsed e).2 in
          (xs, place7-none top (variables xs) none_wrong a, replied_is, record { many = omega arith; mark = λ v p q. d.marks zs says w v q ∙ mark_holds xs v (all_there_lem top (variables xs) a v p q) })
