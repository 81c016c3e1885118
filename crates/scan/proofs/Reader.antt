-- What is right of the rest of a reply is right of the whole. Assumes nothing.
use mathlib.Core.Path.{◌≡◌, refl, sym, ap, ◌∙◌}
use mathlib.Core.Bool.{Bool, true, false, cond}
use mathlib.Core.List.{List, [], ◌∷◌, ◌++◌, map}
use Prim.Native.Nat.{ℕ, ◌+◌, ◌≤◌, ◌<◌}
use native.Mathlib.Numerals.{add-one}
use native.Mathlib.Omega.{arith}
use lib.Dec.{eqb}
use lib.ListN.{length, get_or, drop}
use lib.Seq.{drop-cons, drop-length}
use borrow.Author.Tests.{ne_eqb}
use Rattle.std.specs.Prelude.{Option, None}
use Rattle.dimacs.specs.Reply.{onto, split, Word, Status, Line, bad, quiet, says, gives, line_of, statuses, literals}
use Rattle.dimacs.specs.Model.{before_nought}
use Rattle.dimacs.specs.Decision.{Parsed, Refused6, Sat, judged, answer_of}
use Rattle.dimacs.proofs.Cut.{answer_split}
use Rattle.dimacs.proofs.Words.{split-cons}
use Rattle.dimacs.proofs.Positive.{settle_sat, bad_first_sat}
use Rattle.scan.specs.declared.line.Mode.{Mode}
use Rattle.scan.specs.declared.line.Mode.TheVariants.{Start, Bad}
use Rattle.scan.specs.declared.line.Lit.{Lit}
use Rattle.scan.specs.declared.line.Kind.{Kind}
use Rattle.scan.specs.declared.line.Kind.TheVariants as kind
use Rattle.scan.specs.declared.tally.Statuses.{Statuses}
use Rattle.scan.specs.declared.tally.Statuses.TheVariants.{Nothing}
use Rattle.scan.specs.declared.tally.Shut.TheVariants.{Open}
use Rattle.scan.specs.declared.tally.Tally.{Tally}
use Rattle.scan.specs.Line.{step_mode, mode_literal, ended_literal, line_kind, ModeAt, mode_kind}
use Rattle.scan.specs.Tally.{said_after, tally_after, by_said, answer_by, told_at_end}
use Rattle.scan.specs.Marks.{brief}
use Rattle.scan.proofs.Outcome.{outcome, outcome_bad, outcome-none, outcome_next}
use Rattle.scan.proofs.Automaton.{words, words_bad, list_of, emits, line_words, line_step, mode_step, line_ends}
use Rattle.scan.proofs.Counts.{tally, shut_number, tallied, tallied_more, tally-small, codes, codes-line, settle-brief}

-- the lines that are left, of the first of which a mode was read
lines_of : List ℕ → ℕ → Mode → List (List ℕ) → List Line
lines_of t i m [] = []
lines_of t i m (l ∷ ls) = words t i m (split 32 l) ∷ map line_of ls

lines_start : (t : List ℕ) (i : ℕ) (ls : List (List ℕ)) → lines_of t i Start ls ≡ map line_of ls
unfolding lines_of
lines_start t i [] = refl
lines_start t i (l ∷ ls) = ap (λ k. k ∷ map line_of ls) (sym (line_words t i l))

-- the answer, from the place i on
pub ends : List ℕ → ℕ → Mode → ℕ → List Status → List Word → Parsed
ends t i m number ss xs = outcome number ss xs (lines_of t i m (split 10 (drop i t)))

ends_start : (t : List ℕ) → ends t 0 Start 1 [] [] ≡ answer_of t
unfolding ends outcome judged
ends_start t = ap (outcome 1 [] []) (lines_start t 0 (split 10 t)) ∙ sym (answer_split t)

ends_bad : (t : List ℕ) (i number : ℕ) (ss : List Status) (xs : List Word) → 1 ≤ number → ends t i Bad number ss xs ≡ Refused6 number
unfolding ends lines_of
ends_bad t i number ss xs h =
    let s = split-cons 10 (drop i t) in
    rw (s.2, words_bad t i (split 32 s.0)) (outcome_bad number ss xs (map line_of s.1) h)

module _ (t : List ℕ) (i : ℕ) (k : i < length t) (m : Mode) (number : ℕ) (ss : List Status) (xs : List Word) where
  rest-text : drop i t ≡ get_or t i 0 ∷ drop (i + 1) t
  rest-text = rw (add-one, drop-cons t i 0)

  ends_lf : get_or t i 0 ≡ 10 → ends t i m number ss xs ≡ outcome number ss xs (words t i m ([] ∷ []) ∷ lines_of t (i + 1) Start (split 10 (drop (i + 1) t)))
  unfolding ends split lines_of
  ends_lf e =
      ap (λ u. outcome number ss xs (lines_of t i m (split 10 u))) (rest-text ∙ ap (λ b. b ∷ drop (i + 1) t) e)
      ∙ ap (λ ks. outcome number ss xs (words t i m ([] ∷ []) ∷ ks)) (sym (lines_start t (i + 1) (split 10 (drop (i + 1) t))))

  ends_in : (get_or t i 0 ≡ 10 → ⊥) → ModeAt m i → 1 ≤ number → ends t i m number ss xs ≡ ends t (i + 1) (step_mode m (get_or t i 0) (i + 1)) number ss (xs ++ emits m (get_or t i 0))
  unfolding ends split lines_of onto
  ends_in n h o =
      let b = get_or t i 0 in
      let s = split-cons 10 (drop (i + 1) t) in
      ap (λ z. outcome number ss xs (lines_of t i m (split 10 z))) rest-text
      ∙ ap (λ z. outcome number ss xs (lines_of t i m z)) (one_more (drop (i + 1) t) n ∙ ap (onto b) s.2)
      ∙ line_step t i k s.0 m h number ss xs (map line_of s.1) o
      ∙ ap (λ z. outcome number ss (xs ++ emits m b) (lines_of t (i + 1) (step_mode m b (i + 1)) z)) (sym s.2)
    where
      one_more : (u : List ℕ) → (get_or t i 0 ≡ 10 → ⊥) → split 10 (get_or t i 0 ∷ u) ≡ onto (get_or t i 0) (split 10 u)
      one_more u n = simp (ne_eqb (get_or t i 0) 10 n)

-- what holds at the place i, of the words xs that ended so far: the lists that are counted, and that the rest decides as the whole
pub record Right (t : List ℕ) (xs : List Word) (m : Mode) (number : ℕ) (said : Statuses) (tl : Tally) (i : ℕ) : Type 0 where
  pub ss : List Status
  pub saids : said ≡ codes ss
  pub notes : tl ≡ tallied xs
  pub one_line : 1 ≤ number
  pub few : number ≤ i + 1
  pub small : tl.count ≤ i
  pub inside : ModeAt m i
  pub decides : ends t i m number ss xs ≡ answer_of t

-- before the first byte
pub start_right : (t : List ℕ) → Right t [] Start 1 Nothing (tally 0 Open) 0
unfolding codes shut_number before_nought
start_right t = record { ss = []; saids = refl; notes = refl; one_line = omega arith; few = omega arith; small = omega arith; inside = tt; decides = ends_start t }

-- a line that comes to no other kind is not well-formed
kind_bad : (k : Line) → line_kind k ≡ kind.Bad → k ≡ bad
unfolding line_kind
kind_bad bad h = refl
kind_bad quiet h = cc
kind_bad (says s) h = cc
kind_bad (gives xs) h = cc

-- at a byte within a line
event_in : (m : Mode) (b : ℕ) → eqb b 10 ≡ false → emits m b ≡ list_of (ended_literal m b)
unfolding list_of
event_in m b h = simp h (go (eqb b 32))
  where
    go : (x : Bool) → cond x (list_of (mode_literal m)) [] ≡ list_of (cond x (mode_literal m) None)
    go true = refl
    go false = refl

module _ {t : List ℕ} {xs : List Word} {m : Mode} {number : ℕ} {said : Statuses} {tl : Tally} {i : ℕ} (r : Right t xs m number said tl i) where
  -- the line, if it ends here, and the lines after it
  abbrev last : Line
  last = words t i m ([] ∷ [])

  abbrev later : List Line
  later = lines_of t (i + 1) Start (split 10 (drop (i + 1) t))

  is_bad : mode_kind t m i ≡ kind.Bad → last ≡ bad
  is_bad c = kind_bad last (sym (line_ends t i m).0 ∙ c)

  not_bad : (mode_kind t m i ≡ kind.Bad → ⊥) → last ≡ bad → ⊥
  unfolding line_kind
  not_bad n e = n ((line_ends t i m).0 ∙ ap line_kind e)

  saids_next : (last ≡ bad → ⊥) → said_after said (mode_kind t m i) ≡ codes (r.ss ++ statuses (last ∷ []))
  saids_next n = (λ j. said_after (r.saids j) ((line_ends t i m).0 j)) ∙ codes-line r.ss last n

  noted : (l : Option Lit) → tally_after tl l ≡ tallied (xs ++ list_of l)
  noted l = ap (λ z. tally_after z l) r.notes ∙ tallied_more xs l

  -- one byte on, where a literal ends or none, and the rest decides as before
  next : (l : Option Lit) (m' : Mode) (number' : ℕ) (said' : Statuses) (ss' : List Status) → said' ≡ codes ss' → 1 ≤ number' → number' ≤ number + 1 → ModeAt m' (i + 1) → ends t (i + 1) m' number' ss' (xs ++ list_of l) ≡ answer_of t → Right t (xs ++ list_of l) m' number' said' (tally_after tl l) (i + 1)
  next l m' number' said' ss' s o f h d =
      record { ss = ss'; saids = s; notes = noted l; one_line = o; few = let g = r.few in omega arith; small = let a = tally-small tl l in let b = r.small in omega arith; inside = h; decides = d }

  -- the words that ended, with those that end at a byte
  abbrev Then : ℕ → Mode → ℕ → Statuses → Type 0
  Then b m' number' said' = Right t (xs ++ list_of (ended_literal m b)) m' number' said' (tally_after tl (ended_literal m b)) (i + 1)

  module _ (k : i < length t) where
    -- at LF
    module _ (e : get_or t i 0 ≡ 10) where
      decided : outcome number r.ss xs (last ∷ later) ≡ answer_of t
      decided = sym (ends_lf t i k m number r.ss xs e) ∙ r.decides

      pub bad_line_right : mode_kind t m i ≡ kind.Bad → Then (get_or t i 0) Bad number said
      bad_line_right c =
          next _ Bad number said r.ss r.saids r.one_line (omega arith) tt
          (ends_bad t (i + 1) number r.ss _ r.one_line ∙ sym (outcome_bad number r.ss xs later r.one_line) ∙ ap (λ z. outcome number r.ss xs (z ∷ later)) (sym (is_bad c)) ∙ decided)

      pub good_line_right : (mode_kind t m i ≡ kind.Bad → ⊥) → Then (get_or t i 0) Start (number + 1) (said_after said (mode_kind t m i))
      unfolding ends
      good_line_right c =
          let n = not_bad c in
          rw e (next (mode_literal m) Start (number + 1) _ (r.ss ++ statuses (last ∷ [])) (saids_next n) (omega arith) (omega arith) tt
          (ap (λ z. outcome (number + 1) (r.ss ++ statuses (last ∷ [])) (xs ++ z) later) (line_ends t i m).1 ∙ sym (outcome_next number r.ss xs last later n) ∙ decided))

    -- within a line
    pub in_line_right : (get_or t i 0 ≡ 10 → ⊥) → Then (get_or t i 0) (step_mode m (get_or t i 0) (i + 1)) number said
    in_line_right n =
        let b = get_or t i 0 in
        next _ _ number said r.ss r.saids r.one_line (omega arith) (mode_step m b i r.inside)
        (ap (λ z. ends t (i + 1) (step_mode m b (i + 1)) number r.ss (xs ++ z)) (sym (event_in m b (ne_eqb b 10 n))) ∙ sym (ends_in t i k m number r.ss xs n r.inside r.one_line) ∙ r.decides)

  -- the whole text was read
  module _ (e : i ≡ length t) where
    last_line : outcome number r.ss xs (last ∷ []) ≡ answer_of t
    unfolding ends lines_of split
    last_line = ap (λ u. outcome number r.ss xs (lines_of t i m (split 10 u))) (sym (ap (λ n. drop n t) e ∙ drop-length t)) ∙ r.decides

    pub end_right : told_at_end t m i number said tl ≡ brief (answer_of t)
    unfolding brief
    end_right = go (mode_kind t m i) refl ∙ ap brief last_line
      where
        good : (last ≡ bad → ⊥) → by_said (said_after said (mode_kind t m i)) (tally_after tl (mode_literal m)) ≡ brief (outcome number r.ss xs (last ∷ []))
        good n =
            (λ j. by_said (saids_next n j) ((noted (mode_literal m) ∙ ap (λ z. tallied (xs ++ z)) (line_ends t i m).1) j))
            ∙ settle-brief (r.ss ++ statuses (last ∷ [])) (xs ++ literals (last ∷ []))
            ∙ ap brief (sym (outcome_next number r.ss xs last [] n ∙ outcome-none (number + 1) (r.ss ++ statuses (last ∷ [])) (xs ++ literals (last ∷ []))))

        go : (k : Kind) → mode_kind t m i ≡ k → answer_by k number (said_after said k) (tally_after tl (mode_literal m)) ≡ brief (outcome number r.ss xs (last ∷ []))
        go kind.Bad h = ap brief (sym (ap (λ z. outcome number r.ss xs (z ∷ [])) (is_bad h) ∙ outcome_bad number r.ss xs [] r.one_line))
        go (kind.Says s) h = ap (λ k. by_said (said_after said k) (tally_after tl (mode_literal m))) (sym h) ∙ good (not_bad (λ e. cc))
        go kind.Other h = ap (λ k. by_said (said_after said k) (tally_after tl (mode_literal m))) (sym h) ∙ good (not_bad (λ e. cc))

    -- the words that were met are those of the answer
    pub end_literals : (zs : List Word) → answer_of t ≡ Sat zs → xs ++ list_of (mode_literal m) ≡ zs
    unfolding outcome
    end_literals zs h = ap (λ z. xs ++ z) (line_ends t i m).1 ∙ settle_sat _ _ zs (bad_first_sat _ _ zs (last_line ∙ h))
