-- What the counts of the reader say of the lists they stand for. Assumes nothing.
use mathlib.Core.Path.{◌≡◌, refl, sym, ap, ◌∙◌}
use mathlib.Core.Bool.{Bool, true, false, cond}
use mathlib.Core.List.{List, [], ◌∷◌, ◌++◌, append-nil}
use Prim.Native.Nat.{ℕ, suc, ◌+◌, ◌≤◌}
use native.Mathlib.Omega.{arith}
use lib.ListN.{length, length-append}
use Rattle.std.specs.Prelude.{Option, Some, None, Ok, Err}
use Rattle.dimacs.specs.Clause.{Literal}
use Rattle.dimacs.specs.Reply.{Word, stop, lit, Status, satisfiable, unsatisfiable, unknown, Line, bad, quiet, says, gives, statuses, closed}
use Rattle.dimacs.specs.Model.{before_nought}
use Rattle.dimacs.specs.Decision.{settle, Refused6, Sat as SatAs}
use Rattle.scan.specs.declared.line.Lit.{Lit}
use Rattle.scan.specs.declared.line.Lit.TheVariants.{Stop, Var}
use Rattle.scan.specs.declared.line.Kind.TheVariants as kind
use Rattle.scan.specs.declared.tally.Statuses.{Statuses}
use Rattle.scan.specs.declared.tally.Statuses.TheVariants.{Nothing, One, Several}
use Rattle.scan.specs.declared.tally.Shut.{Shut}
use Rattle.scan.specs.declared.tally.Shut.TheVariants.{Open, Closed, Passed}
use Rattle.scan.specs.declared.tally.Tally.{Tally}
use Rattle.scan.specs.declared.Answer.{Answer}
use Rattle.scan.specs.declared.Answer.TheVariants.{Claimed, Unknown, Sat}
use Rattle.scan.specs.Line.{status_as, line_kind}
use Rattle.scan.specs.Tally.{said_after, count_after, shut_after, tally_after, none_as, alone_as, closed_as, by_said}
use Rattle.scan.specs.Marks.{brief}
use Rattle.scan.proofs.Automaton.{list_of}

abbrev pub tally : ℕ → Shut → Tally
tally n s = record { count = n; shut = s }

-- how words are shut
unfoldable pub shut_number : List Word → Shut
shut_number [] = Open
shut_number (stop ∷ []) = Closed
shut_number (stop ∷ x ∷ xs) = Passed
shut_number (lit l ∷ xs) = shut_number xs

-- the tally of words
abbrev pub tallied : List Word → Tally
tallied xs = tally (length (before_nought xs)) (shut_number xs)

shut_stop : (xs : List Word) → shut_after (shut_number xs) (Some Stop) ≡ shut_number (xs ++ stop ∷ [])
unfolding shut_number
shut_stop [] = refl
shut_stop (stop ∷ []) = refl
shut_stop (stop ∷ x ∷ xs) = refl
shut_stop (lit l ∷ xs) = shut_stop xs

shut_lit : (xs : List Word) (x : Literal) → shut_after (shut_number xs) (Some (Var x.negated x.variable)) ≡ shut_number (xs ++ lit x ∷ [])
unfolding shut_number
shut_lit [] x = refl
shut_lit (stop ∷ []) x = refl
shut_lit (stop ∷ y ∷ xs) x = refl
shut_lit (lit l ∷ xs) x = shut_lit xs x

-- the literals before `0`, after one more word
pub before_stop : (xs : List Word) → before_nought xs ≡ before_nought (xs ++ stop ∷ [])
unfolding before_nought
before_stop [] = refl
before_stop (stop ∷ xs) = refl
before_stop (lit l ∷ xs) = ap (λ z. l ∷ z) (before_stop xs)

-- they are one more as long as the words are open
abbrev pub with_lit : Shut → List Literal → Literal → List Literal
with_lit Open xs x = xs ++ x ∷ []
with_lit Closed xs x = xs
with_lit Passed xs x = xs

pub before_lit : (xs : List Word) (x : Literal) → with_lit (shut_number xs) (before_nought xs) x ≡ before_nought (xs ++ lit x ∷ [])
unfolding before_nought shut_number
before_lit [] x = refl
before_lit (stop ∷ []) x = refl
before_lit (stop ∷ y ∷ xs) x = refl
before_lit (lit l ∷ xs) x = go (shut_number xs) ∙ ap (λ z. l ∷ z) (before_lit xs x)
  where
    go : (s : Shut) → with_lit s (l ∷ before_nought xs) x ≡ l ∷ with_lit s (before_nought xs) x
    go Open = refl
    go Closed = refl
    go Passed = refl

-- one literal more is counted
pub tallied_more : (xs : List Word) (l : Option Lit) → tally_after (tallied xs) l ≡ tallied (xs ++ list_of l)
unfolding list_of
tallied_more xs None = ap tallied (sym (append-nil xs))
tallied_more xs (Some Stop) = (λ i. tally (length (before_stop xs i)) (shut_stop xs i))
tallied_more xs (Some (Var n v)) = (λ i. tally ((go (shut_number xs) ∙ ap length (before_lit xs x)) i) (shut_lit xs x i))
  where
    x : Literal
    x = record { variable = v; negated = n }

    go : (s : Shut) → count_after (length (before_nought xs)) s (Some (Var n v)) ≡ length (with_lit s (before_nought xs) x)
    go Open = sym (length-append (before_nought xs) (x ∷ []))
    go Closed = refl
    go Passed = refl

pub tally-small : (t : Tally) (l : Option Lit) → (tally_after t l).count ≤ t.count + 1
tally-small t None = omega arith
tally-small t (Some Stop) = omega arith
tally-small t (Some (Var n v)) = go t.shut
  where
    go : (s : Shut) → count_after t.count s (Some (Var n v)) ≤ t.count + 1
    go Open = omega arith
    go Closed = omega arith
    go Passed = omega arith

-- no status, one, or several
unfoldable pub codes : List Status → Statuses
codes [] = Nothing
codes (s ∷ []) = One (status_as s)
codes (s ∷ s' ∷ ss) = Several

codes_more : (ss : List Status) (s : Status) → said_after (codes ss) (kind.Says (status_as s)) ≡ codes (ss ++ s ∷ [])
unfolding codes
codes_more [] s = refl
codes_more (x ∷ []) s = refl
codes_more (x ∷ y ∷ []) s = refl
codes_more (x ∷ y ∷ z ∷ ss) s = refl

-- after a well-formed line
pub codes-line : (ss : List Status) (k : Line) → (k ≡ bad → ⊥) → said_after (codes ss) (line_kind k) ≡ codes (ss ++ statuses (k ∷ []))
unfolding line_kind statuses
codes-line ss bad n = absurd (n refl)
codes-line ss quiet n = ap codes (sym (append-nil ss))
codes-line ss (says s) n = codes_more ss s
codes-line ss (gives xs) n = ap codes (sym (append-nil ss))

shut-closed : (n : ℕ) (xs : List Word) → closed_as n (shut_number xs) ≡ cond (closed xs) (Ok (Sat n)) (Err 0)
unfolding shut_number closed
shut-closed n [] = refl
shut-closed n (stop ∷ []) = refl
shut-closed n (stop ∷ x ∷ xs) = refl
shut-closed n (lit l ∷ xs) = shut-closed n xs

-- some words leave a trace
alone_not : (a : Answer) (x : Word) (xs : List Word) → alone_as a (tallied (x ∷ xs)) ≡ Err 0
unfolding shut_number before_nought
alone_not a stop [] = refl
alone_not a stop (x ∷ xs) = refl
alone_not a (lit l) xs = go (length (before_nought xs)) (shut_number xs)
  where
    go : (n : ℕ) (s : Shut) → none_as a (suc n) s ≡ Err 0
    go n Open = refl
    go n Closed = refl
    go n Passed = refl

-- the answer by the counts is the answer by the lists
pub settle-brief : (ss : List Status) (xs : List Word) → by_said (codes ss) (tallied xs) ≡ brief (settle ss xs)
unfolding codes settle brief shut_number before_nought
settle-brief [] xs = refl
settle-brief (satisfiable ∷ []) xs = shut-closed (length (before_nought xs)) xs ∙ go (closed xs)
  where
    go : (b : Bool) → cond b (Ok (Sat (length (before_nought xs)))) (Err 0) ≡ brief (cond b (SatAs xs) (Refused6 0))
    go true = refl
    go false = refl
settle-brief (unsatisfiable ∷ []) [] = refl
settle-brief (unsatisfiable ∷ []) (x ∷ xs) = alone_not Claimed x xs
settle-brief (unknown ∷ []) [] = refl
settle-brief (unknown ∷ []) (x ∷ xs) = alone_not Unknown x xs
settle-brief (s ∷ s' ∷ ss) xs = refl
