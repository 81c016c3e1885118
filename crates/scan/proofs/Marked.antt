-- The loop's invariant, marks included: the words met so far are counted and marked, and what is right of the rest is right of the whole.
-- Assumes nothing.
use mathlib.Core.Path.{◌≡◌, refl, sym, ap, subst, ◌∙◌}
use mathlib.Core.Bool.{cond}
use mathlib.Core.List.{List, [], ◌++◌}
use Prim.Native.Nat.{ℕ, ◌+◌, ◌≤◌, ◌<◌}
use native.Mathlib.Omega.{arith}
use lib.Dec.{eqb}
use lib.ListN.{length, get_or, replicate, length-replicate, get_or-replicate}
use Rattle.std.specs.Prelude.{Option, None, Result}
use Rattle.dimacs.specs.Reply.{Word}
use Rattle.dimacs.specs.Model.{before_nought}
use Rattle.dimacs.specs.Decision.{answer_of, Sat}
use Rattle.channel.specs.Limits.{most_variables, most_values}
use Rattle.scan.specs.declared.line.Lit.{Lit}
use Rattle.scan.specs.declared.line.Kind.TheVariants as kind
use Rattle.scan.specs.declared.tally.Statuses.{Statuses}
use Rattle.scan.specs.declared.tally.Statuses.TheVariants.{Nothing}
use Rattle.scan.specs.declared.tally.Shut.TheVariants.{Open}
use Rattle.scan.specs.declared.tally.Tally.{Tally}
use Rattle.scan.specs.declared.seen.Seen.{Seen}
use Rattle.scan.specs.declared.Answer.{Answer}
use Rattle.scan.specs.declared.line.Mode.{Mode}
use Rattle.scan.specs.declared.line.Mode.TheVariants.{Start, Bad}
use Rattle.scan.specs.Line.{mode_literal, ended_literal, step_mode, mode_kind}
use Rattle.scan.specs.Tally.{tally_after, said_after, told_at_end}
use Rattle.scan.specs.Seen.{seen_as, marked_lit}
use Rattle.scan.specs.Marks.{mark_of, Done}
use Rattle.scan.proofs.Automaton.{list_of}
use Rattle.scan.proofs.Counts.{tally}
use Rattle.scan.proofs.Reader.{Right, start_right, bad_line_right, good_line_right, in_line_right, end_right, end_literals}
use Rattle.scan.proofs.Agrees.{seen_after, agrees_none, first_wrong_lem, marks_are}
use Rattle.scan.proofs.Folds.{seen_at, seen_lit}

-- no variable was seen
abbrev none_seen : Seen
none_seen = seen_as (replicate most_values 0) None

pub record Reached (t : List ℕ) (top : ℕ) (s : Seen) (m : Mode) (number : ℕ) (said : Statuses) (tl : Tally) (i : ℕ) : Type 0 where
  pub xs : List Word
  pub right : Right t xs m number said tl i
  pub seen_is : s ≡ seen_at top none_seen xs

pub reached_start : (t : List ℕ) (top : ℕ) → Reached t top none_seen Start 1 Nothing (tally 0 Open) 0
unfolding seen_after before_nought
reached_start t top = record { xs = []; right = start_right t; seen_is = refl }

module _ {t : List ℕ} {top : ℕ} {s : Seen} {m : Mode} {number : ℕ} {said : Statuses} {tl : Tally} {i : ℕ} (r : Reached t top s m number said tl i) where
  seen_next : (l : Option Lit) → marked_lit s tl top l ≡ seen_at top none_seen (r.xs ++ list_of l)
  seen_next l = (λ j. marked_lit (r.seen_is j) (r.right.notes j) top l) ∙ seen_lit top none_seen r.xs l

  -- one byte on, where the loop comes to a mode, a line's number and the `s` lines
  abbrev here : Option Lit
  here = ended_literal m (get_or t i 0)

  abbrev Onward : Mode → ℕ → Statuses → Type 0
  Onward m' number' said' = Reached t top (marked_lit s tl top here) m' number' said' (tally_after tl here) (i + 1)

  onward : {m' : Mode} {number' : ℕ} {said' : Statuses} → Right t (r.xs ++ list_of here) m' number' said' (tally_after tl here) (i + 1) → Onward m' number' said'
  onward k = record { xs = r.xs ++ list_of here; right = k; seen_is = seen_next here }

  pub reached_bad : i < length t → get_or t i 0 ≡ 10 → mode_kind t m i ≡ kind.Bad → Onward Bad number said
  reached_bad k e c = onward (bad_line_right r.right k e c)

  pub reached_line : i < length t → get_or t i 0 ≡ 10 → (mode_kind t m i ≡ kind.Bad → ⊥) → Onward Start (number + 1) (said_after said (mode_kind t m i))
  reached_line k e c = onward (good_line_right r.right k e c)

  pub reached_byte : i < length t → (get_or t i 0 ≡ 10 → ⊥) → Onward (step_mode m (get_or t i 0) (i + 1)) number said
  reached_byte k n = onward (in_line_right r.right k n)

  -- what the calls of a turn of the loop gave
  pub arrive : {m'' : Mode} {number'' : ℕ} {said'' : Statuses} → Onward m'' number'' said'' → {l : Option Lit} → l ≡ here → {s' : Seen} {tl' : Tally} {number' : ℕ} {said' : Statuses} {m' : Mode} → s' ≡ marked_lit s tl top l → tl' ≡ tally_after tl l → m' ≡ m'' → number' ≡ number'' → said' ≡ said'' → Reached t top s' m' number' said' tl' (i + 1)
  arrive o e w c f g k = rw (w, c, f, g, k, e) o

  -- what is seen at the end, if the answer is SATISFIABLE
  seen_all : i ≡ length t → (zs : List Word) → answer_of t ≡ Sat zs → marked_lit s tl top (mode_literal m) ≡ seen_at top none_seen zs
  seen_all e zs a = seen_next (mode_literal m) ∙ ap (seen_at top none_seen) (end_literals r.right e zs a)

  reached_end : i ≡ length t → top ≤ most_variables → Done t top (told_at_end t m i number said tl) (marked_lit s tl top (mode_literal m)).wrong (marked_lit s tl top (mode_literal m)).marks
  reached_end e h =
      record {
        says_answer = end_right r.right e;
        first = λ zs a. ap (λ z. z.wrong) (seen_all e zs a) ∙ first_wrong_lem top 0 _ [] (before_nought zs) (agrees_none top most_values (omega arith));
        marks =
            λ zs a w v k.
            ap (λ z. get_or z.marks v 0) (seen_all e zs a)
            ∙ marks_are top 0 none_seen.marks (before_nought zs) (subst (λ n. top < n) (sym (length-replicate {A = ℕ} most_values 0)) (omega arith)) (ap (λ z. z.wrong) (sym (seen_all e zs a)) ∙ w) v k
            ∙ ap (λ z. cond (eqb z 0) (mark_of (before_nought zs) v) z) (get_or-replicate {A = ℕ} most_values v 0 0 (omega arith));
      }

  -- and those after the loop
  pub finish : i ≡ length t → top ≤ most_variables → {l : Option Lit} → l ≡ mode_literal m → {s' : Seen} {answer : Result Answer ℕ} → s' ≡ marked_lit s tl top l → answer ≡ told_at_end t m i number said tl → Done t top answer s'.wrong s'.marks
  finish k h e w a = rw (a, w, e) (reached_end k h)
