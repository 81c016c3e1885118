-- The marks after the literals of a reply, one literal more at a time. Assumes nothing.
use mathlib.Core.Path.{◌≡◌, refl, sym, ap, ◌∙◌}
use mathlib.Core.List.{List, [], ◌∷◌, ◌++◌, append-nil}
use Prim.Native.Nat.{ℕ, suc, ◌+◌}
use native.Mathlib.Omega.{arith}
use native.Mathlib.Nat.{zero-add}
use lib.ListN.{length}
use Rattle.std.specs.Prelude.{Option, Some, None}
use Rattle.dimacs.specs.Reply.{Word}
use Rattle.dimacs.specs.Model.{before_nought}
use Rattle.dimacs.specs.Clause.{Literal}
use Rattle.scan.specs.declared.line.Lit.{Lit}
use Rattle.scan.specs.declared.line.Lit.TheVariants.{Stop, Var}
use Rattle.scan.specs.declared.tally.Shut.{Shut}
use Rattle.scan.specs.declared.tally.Shut.TheVariants.{Open, Closed, Passed}
use Rattle.scan.specs.declared.seen.Seen.{Seen}
use Rattle.scan.specs.Seen.{marked, marked_open, marked_lit}
use Rattle.scan.proofs.Automaton.{list_of}
use Rattle.scan.proofs.Counts.{shut_number, tallied, before_stop, with_lit, before_lit}
use Rattle.scan.proofs.Agrees.{seen_after}

seen_more : (top : ℕ) (x : Literal) (s : Seen) (p : ℕ) (xs : List Literal) → seen_after top s p (xs ++ x ∷ []) ≡ marked (seen_after top s p xs) (p + length xs + 1) top x.negated x.variable
unfolding seen_after
seen_more top x s p [] = ap (λ n. marked s n top x.negated x.variable) (let h : suc p ≡ p + 0 + 1 = omega arith in h)
seen_more top x s p (y ∷ xs) =
    seen_more top x (marked s (suc p) top y.negated y.variable) (suc p) xs
    ∙ ap (λ n. marked (seen_after top s p (y ∷ xs)) n top x.negated x.variable) (let h : suc p + length xs + 1 ≡ p + suc (length xs) + 1 = omega arith in h)

-- what is seen after words, none having been seen in s
abbrev pub seen_at : ℕ → Seen → List Word → Seen
seen_at top s xs = seen_after top s 0 (before_nought xs)

pub seen_lit : (top : ℕ) (s : Seen) (xs : List Word) (l : Option Lit) → marked_lit (seen_at top s xs) (tallied xs) top l ≡ seen_at top s (xs ++ list_of l)
unfolding list_of
seen_lit top s xs None = ap (seen_at top s) (sym (append-nil xs))
seen_lit top s xs (Some Stop) = ap (seen_after top s 0) (before_stop xs)
seen_lit top s xs (Some (Var n v)) = go (shut_number xs) ∙ ap (seen_after top s 0) (before_lit xs x)
  where
    x : Literal
    x = record { variable = v; negated = n }

    go : (z : Shut) → marked_open (seen_at top s xs) z (length (before_nought xs) + 1) top (Some (Var n v)) ≡ seen_after top s 0 (with_lit z (before_nought xs) x)
    go Open = sym (seen_more top x s 0 (before_nought xs) ∙ ap (λ m. marked (seen_at top s xs) (m + 1) top n v) (zero-add (length (before_nought xs))))
    go Closed = refl
    go Passed = refl
