-- THE CUT THEOREM for a job's clauses: no beginning of a reply gives another answer than the whole, but a refusal by row 6, unless row 6 refuses the
-- whole; and the empty reply is refused by 6, place 0. Rows 7 and 8 see nothing but the words of the text, so `cut` carries over. Assumes nothing.
use mathlib.Core.Path.{◌≡◌, refl, ap}
use mathlib.Core.Bool.{Bool, true, false, cond}
use mathlib.Core.List.{List, []}
use mathlib.Core.Logic.{◌⊎◌, inl, inr}
use Prim.Native.Nat.{ℕ, suc}
use lib.Dec.{eqb}
use lib.ListN.{take}
use Rattle.facts.proofs.Bools.{never}
use Rattle.dimacs.specs.Clause.{Clause}
use Rattle.dimacs.specs.Decision.{first_false, Parsed, Refused6, Sat, Unsat, Unsure, answer_of, accepts, place7, checked, replied, reply_of}
use Rattle.dimacs.specs.Reply.{Ended}
use Rattle.dimacs.specs.Model.{Refused, Accepted, before_nought, variables, holds}
use Rattle.dimacs.proofs.Cut.{Refuses, refuses_or, cut, empty_refused}
use Rattle.dimacs.proofs.Ended.{bad_line}

module _ (n : ℕ) (cs : List Clause) where
  -- the text is refused by row 6
  abbrev pub RefusedBy6 : List ℕ → Type 0
  RefusedBy6 t = (p : ℕ) × (reply_of n cs t ≡ Refused 6 p)

  -- of a text that row 6 does not refuse, each beginning is refused by row 6 or gives the same answer
  pub cut_reply : (t : List ℕ) (k : ℕ) → accepts (answer_of t) ≡ true → RefusedBy6 (take k t) ⊎ (reply_of n cs (take k t) ≡ reply_of n cs t)
  unfolding reply_of replied
  cut_reply t k h = go (cut t k (answer_of t) refl h)
    where
      go : Refuses (answer_of (take k t)) ⊎ (answer_of (take k t) ≡ answer_of t) → ((p : ℕ) × (replied n cs (answer_of (take k t)) ≡ Refused 6 p)) ⊎ (replied n cs (answer_of (take k t)) ≡ replied n cs (answer_of t))
      go (inl r) = inl (r.0, ap (replied n cs) r.1)
      go (inr e) = inr (ap (replied n cs) e)

  -- of every text: row 6 refuses it, or it refuses the beginning, or the beginning is answered as the whole is
  pub cut_any : (t : List ℕ) (k : ℕ) → RefusedBy6 t ⊎ (RefusedBy6 (take k t) ⊎ (reply_of n cs (take k t) ≡ reply_of n cs t))
  unfolding reply_of replied
  cut_any t k = go (refuses_or (answer_of t))
    where
      go : Refuses (answer_of t) ⊎ (accepts (answer_of t) ≡ true) → RefusedBy6 t ⊎ (RefusedBy6 (take k t) ⊎ (reply_of n cs (take k t) ≡ reply_of n cs t))
      go (inl r) = inl (r.0, ap (replied n cs) r.1)
      go (inr h) = inr (cut_reply t k h)

  -- no other row gives a 6
  six_says : (a : Parsed) (p : ℕ) → replied n cs a ≡ Refused 6 p → a ≡ Refused6 p
  unfolding replied checked
  six_says (Refused6 q) p h = cc
  six_says (Sat xs) p h = go (eqb (place7 n (variables (before_nought xs))) 0) (eqb (first_false (holds (before_nought xs)) 1 cs) 0) h
    where
      go : (b c : Bool) → cond b (cond c (Accepted (before_nought xs)) (Refused 8 (first_false (holds (before_nought xs)) 1 cs))) (Refused 7 (place7 n (variables (before_nought xs)))) ≡ Refused 6 p → Sat xs ≡ Refused6 p
      go true true h = cc
      go true false h = never cc
      go false c h = never cc
  six_says Unsat p h = cc
  six_says Unsure p h = cc

  -- a text that is refused at a line: so is each beginning in which that line has ended
  pub line_reply : (t : List ℕ) (k p : ℕ) → reply_of n cs t ≡ Refused 6 (suc p) → Ended (take k t) (suc p) → reply_of n cs (take k t) ≡ Refused 6 (suc p)
  unfolding reply_of replied
  line_reply t k p h l = ap (replied n cs) (bad_line t k p (six_says (answer_of t) (suc p) h) l)

  -- the empty reply is refused by 6, place 0
  pub empty_reply : reply_of n cs [] ≡ Refused 6 0
  unfolding reply_of replied
  empty_reply = ap (replied n cs) empty_refused
