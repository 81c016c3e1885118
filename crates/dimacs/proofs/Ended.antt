-- A line that is not well-formed decides from its LF on: a beginning that holds it is refused at it, as the whole is. Assumes nothing.
use mathlib.Core.Path.{◌≡◌, sym, ap, subst, ◌∙◌}
use mathlib.Core.Bool.{Bool, true, false, cond}
use mathlib.Core.List.{List, [], ◌∷◌, map}
use Prim.Native.Nat.{ℕ, zero, suc, ◌+◌, ◌≤◌, ◌<◌}
use native.Mathlib.Omega.{arith}
use lib.ListN.{length, length-map, take, drop, take-append-drop}
use Rattle.dimacs.specs.Reply.{Word, Status, satisfiable, unsatisfiable, unknown, Line, bad, quiet, says, gives, split, line_of, statuses, literals, closed, Ended}
use Rattle.dimacs.specs.Decision.{first_bad, Refused6, Sat, settle, bad_first, judged, answer_of}
use Rattle.dimacs.proofs.Cut.{Along, last, more, Grows, map_along, line_grows, split_along, answer_split}

-- counted from i + 1, the first bad line is at i + 1 or behind it
bad_low : (i q : ℕ) (ks : List Line) → first_bad (suc i) ks ≡ suc q → i ≤ q
unfolding first_bad
bad_low i q [] h = omega arith
bad_low i q (bad ∷ ks) h = omega arith
bad_low i q (quiet ∷ ks) h = let l = bad_low (suc i) q ks h in omega arith
bad_low i q (says s ∷ ks) h = let l = bad_low (suc i) q ks h in omega arith
bad_low i q (gives xs ∷ ks) h = let l = bad_low (suc i) q ks h in omega arith

along_bad : {ks ms : List Line} → Along Grows ks ms → (i q : ℕ) → first_bad (suc i) ms ≡ suc q → suc q < i + length ks → first_bad (suc i) ks ≡ suc q
unfolding first_bad
along_bad (last {y = y} ys r) i q h l = let k = bad_low i q (y ∷ ys) h in omega arith
along_bad (more bad a) i q h l = h
along_bad (more quiet a) i q h l = along_bad a (suc i) q h (omega arith)
along_bad (more (says s) a) i q h l = along_bad a (suc i) q h (omega arith)
along_bad (more (gives xs) a) i q h l = along_bad a (suc i) q h (omega arith)

-- the rules on `s`, `v` and `0` have no line of their own
settle-place : (ss : List Status) (xs : List Word) (p : ℕ) → settle ss xs ≡ Refused6 p → p ≡ 0
unfolding settle
settle-place [] xs p h = cc
settle-place (satisfiable ∷ []) xs p h = go (closed xs) h
  where
    go : (b : Bool) → cond b (Sat xs) (Refused6 0) ≡ Refused6 p → p ≡ 0
    go true h = cc
    go false h = cc
settle-place (unsatisfiable ∷ []) [] p h = cc
settle-place (unsatisfiable ∷ []) (x ∷ xs) p h = cc
settle-place (unknown ∷ []) [] p h = cc
settle-place (unknown ∷ []) (x ∷ xs) p h = cc
settle-place (s ∷ s' ∷ ss) xs p h = cc

first_bad_lem : (n p : ℕ) (ss : List Status) (xs : List Word) → bad_first n (settle ss xs) ≡ Refused6 (suc p) → n ≡ suc p
unfolding bad_first
first_bad_lem zero p ss xs h = let e = settle-place ss xs (suc p) h in omega arith
first_bad_lem (suc n) p ss xs h = cc

pub bad_line : (t : List ℕ) (k p : ℕ) → answer_of t ≡ Refused6 (suc p) → Ended (take k t) (suc p) → answer_of (take k t) ≡ Refused6 (suc p)
unfolding judged bad_first
bad_line t k p h l =
    let a : Along Grows (map line_of (split 10 (take k t))) (map line_of (split 10 t)) = subst (λ z. Along Grows (map line_of (split 10 (take k t))) (map line_of (split 10 z))) (take-append-drop k t) (map_along Grows line_of line_grows (split_along 10 (take k t) (drop k t))) in
    let b = first_bad_lem _ p _ _ (sym (answer_split t) ∙ h) in
    let m = length-map (split 10 (take k t)) line_of in
    let c = along_bad a 0 p b (omega arith) in
    answer_split (take k t) ∙ ap (λ n. bad_first n (settle (statuses (map line_of (split 10 (take k t)))) (literals (map line_of (split 10 (take k t)))))) c
