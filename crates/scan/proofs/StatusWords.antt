-- Status words: what they come to, and that none has a blank. Assumes nothing.
use mathlib.Core.Path.{◌≡◌, refl, sym, ap, ◌∙◌}
use mathlib.Core.Bool.{Bool, true, false, ◌||◌}
use mathlib.Core.List.{List, [], ◌∷◌, ◌++◌}
use Prim.Native.Nat.{ℕ}
use lib.Dec.{eqb}
use borrow.Author.Tests.{eq-eqb}
use Rattle.facts.specs.Same.{same}
use Rattle.facts.proofs.Bools.{not-both}
use Rattle.dimacs.specs.Reply.{Status, satisfiable, unsatisfiable, unknown, text, Line, bad, status_word, status_line}
use Rattle.dimacs.proofs.Cut.{StatusWord, no_status, a_status, status_word_view}
use Rattle.dimacs.proofs.Words.{has}
use Rattle.scan.specs.declared.line.Kind.TheVariants as kind
use Rattle.scan.specs.Line.{line_kind, status_as}

pub word-kind : (s : Status) (w : List ℕ) → w ≡ text s → kind.Says (status_as s) ≡ line_kind (status_word w)
unfolding text status_word same line_kind
word-kind satisfiable w e = rw e refl
word-kind unsatisfiable w e = rw e refl
word-kind unknown w e = rw e refl

pub no_status_kind : (w : List ℕ) → (w ≡ text satisfiable → ⊥) → (w ≡ text unsatisfiable → ⊥) → (w ≡ text unknown → ⊥) → kind.Bad ≡ line_kind (status_word w)
unfolding line_kind
no_status_kind w f g h = go (status_word_view w)
  where
    go : {x : Line} → StatusWord w x → kind.Bad ≡ line_kind x
    go no_status = refl
    go (a_status satisfiable e) = absurd (f e)
    go (a_status unsatisfiable e) = absurd (g e)
    go (a_status unknown e) = absurd (h e)

-- a word with a blank is no status
pub has_in : (s : ℕ) (p w : List ℕ) → has s (p ++ s ∷ w) ≡ true
unfolding has
has_in s [] w = simp (eq-eqb s s refl)
has_in s (b ∷ p) w = go (eqb b s) (has_in s p w)
  where
    go : (x : Bool) → has s (p ++ s ∷ w) ≡ true → (x || has s (p ++ s ∷ w)) ≡ true
    go true h = refl
    go false h = h

no_blank : (s : Status) → has 32 (text s) ≡ false
unfolding has text
no_blank satisfiable = refl
no_blank unsatisfiable = refl
no_blank unknown = refl

pub status_blank : (p : List ℕ) (ws : List (List ℕ)) → has 32 p ≡ true → bad ≡ status_line (p ∷ ws)
unfolding status_line
status_blank p [] h = go (status_word_view p)
  where
    go : {x : Line} → StatusWord p x → bad ≡ x
    go no_status = refl
    go (a_status s e) = not-both refl (sym h ∙ ap (has 32) e ∙ no_blank s)
status_blank p (w ∷ ws) h = refl
