-- The answer of row 6, with lines that were read before: a line more, and literals that ended within a line. Assumes nothing.
use mathlib.Core.Path.{◌≡◌, refl, sym, ap, ◌∙◌}
use mathlib.Core.Bool.{Bool, true, false, cond}
use mathlib.Core.List.{List, [], ◌∷◌, ◌++◌, append_assoc, append-nil}
use Prim.Native.Nat.{ℕ, zero, suc, ◌+◌, ◌≤◌}
use native.Mathlib.Numerals.{add-one}
use native.Mathlib.Omega.{arith}
use Rattle.dimacs.specs.Reply.{Word, Status, Line, bad, quiet, says, gives, statuses, literals}
use Rattle.dimacs.specs.Decision.{first_bad, Parsed, Refused6, settle, bad_first}

-- the answer, with `s` lines and literals read before these lines, the first of which has this number
unfoldable pub outcome : ℕ → List Status → List Word → List Line → Parsed
outcome number ss xs ks = bad_first (first_bad number ks) (settle (ss ++ statuses ks) (xs ++ literals ks))

pub outcome_bad : (number : ℕ) (ss : List Status) (xs : List Word) (ks : List Line) → 1 ≤ number → outcome number ss xs (bad ∷ ks) ≡ Refused6 number
unfolding outcome bad_first first_bad
outcome_bad zero ss xs ks h = absurd (omega arith)
outcome_bad (suc n) ss xs ks h = refl

pub outcome-none : (number : ℕ) (ss : List Status) (xs : List Word) → outcome number ss xs [] ≡ settle ss xs
unfolding outcome bad_first first_bad statuses literals
outcome-none number ss xs = simp append-nil

-- a well-formed line was read
pub outcome_next : (number : ℕ) (ss : List Status) (xs : List Word) (k : Line) (ks : List Line) → (k ≡ bad → ⊥) → outcome number ss xs (k ∷ ks) ≡ outcome (number + 1) (ss ++ statuses (k ∷ [])) (xs ++ literals (k ∷ [])) ks
unfolding outcome first_bad statuses literals
outcome_next number ss xs bad ks n = absurd (n refl)
outcome_next number ss xs quiet ks n = simp (add-one, append-nil)
outcome_next number ss xs (says s) ks n = simp (add-one, append-nil, append_assoc)
outcome_next number ss xs (gives ys) ks n = simp (add-one, append-nil, append_assoc)

-- within a line: the words that end there count as read, and another line is left
abbrev pub Moves : List Word → Line → Line → Type 0
Moves ys k k' = (number : ℕ) (ss : List Status) (xs : List Word) (ks : List Line) → 1 ≤ number → outcome number ss xs (k ∷ ks) ≡ outcome number ss (xs ++ ys) (k' ∷ ks)

pub still : {k k' : Line} → k ≡ k' → Moves [] k k'
still {k} {k'} e number ss xs ks h = ap (λ z. outcome number ss xs (z ∷ ks)) e ∙ ap (λ z. outcome number ss z (k' ∷ ks)) (sym (append-nil xs))

pub silent : (x : Bool) {k k' : Line} → k ≡ k' → Moves (cond x [] []) k k'
silent true e = still e
silent false e = still e

-- a literal of a `v` line
pub value_moves : (x : Bool) (y : Word) (zs : List Word) → Moves (y ∷ []) (cond x (gives (y ∷ zs)) bad) (cond x (gives zs) bad)
unfolding outcome first_bad statuses literals
value_moves true y zs number ss xs ks h = simp append_assoc
value_moves false y zs number ss xs ks h = outcome_bad number ss xs ks h ∙ sym (outcome_bad number ss (xs ++ y ∷ []) ks h)
