-- The variables of a reply are at least 1, so that row 7's missing variables are a matter of counting. Assumes nothing.
use mathlib.Core.Path.{◌≡◌, refl, ap, subst}
use mathlib.Core.Bool.{Bool, true, ◌&&◌}
use mathlib.Core.List.{List, [], ◌∷◌, ◌++◌, map}
use mathlib.Core.Logic.{◌⊎◌, inl, inr}
use Prim.Native.Nat.{ℕ, zero, suc, ◌+◌, ◌-◌, ◌*◌, ◌≤◌}
use native.Mathlib.Omega.{arith}
use lib.Dec.{leb}
use lib.ListN.{length}
use borrow.Author.Tests.{leb-true, le-leb}
use Rattle.facts.proofs.Bools.{and_both, both, never}
use Rattle.dimacs.specs.Reply.{every, Word, stop, lit, decimal, is_literal, literal, Status, Line, bad, quiet, says, gives, lines, line_of, literals}
use Rattle.dimacs.specs.Model.{before_nought, variables}
use Rattle.dimacs.specs.Forms.{IsLiteral, a_nought, a_plain, a_negated, IsLine, empty, c_alone, c_blank, s_line, v_line}
use Rattle.dimacs.specs.Clause.{Literal}
use Rattle.dimacs.specs.Refusals.{GivesModel}
use Rattle.dimacs.specs.Decision.{Parsed, Sat, settle, bad_first, judged, answer_of, first_wrong, all_there}
use Rattle.dimacs.proofs.Words.{line_shows, literal_shows}
use Rattle.dimacs.proofs.Missing.{missing}
use Rattle.dimacs.proofs.Meaning.{before_nought_is, Settled, settled}

pos : Word → Bool
pos stop = true
pos (lit l) = leb 1 l.variable

decimal_grows : (n : ℕ) (w : List ℕ) → 1 ≤ n → 1 ≤ decimal n w
unfolding decimal
decimal_grows n [] h = h
decimal_grows n (b ∷ w) h = decimal_grows (n * 10 + (b - 48)) w (omega arith)

number_pos : (b : ℕ) (w : List ℕ) → (leb 49 b && leb b 57) ≡ true → leb 1 (decimal 0 (b ∷ w)) ≡ true
unfolding decimal
number_pos b w h =
    let l = leb-true 49 b (both (leb 49 b) (leb b 57) h).0 in
    le-leb 1 (decimal 0 (b ∷ w)) (decimal_grows (0 * 10 + (b - 48)) w (omega arith))

is_literal_pos : {w : List ℕ} {x : Word} → IsLiteral w x → pos x ≡ true
unfolding pos
is_literal_pos a_nought = refl
is_literal_pos (a_plain b w h k d) = number_pos b w h
is_literal_pos (a_negated b w h k d) = number_pos b w h

words_pos : (ws : List (List ℕ)) → every is_literal ws ≡ true → every pos (map literal ws) ≡ true
unfolding every
words_pos [] h = refl
words_pos (w ∷ ws) h = let g = both (is_literal w) (every is_literal ws) h in and_both (is_literal_pos (literal_shows w g.0)) (words_pos ws g.1)

line_pos : Line → Bool
line_pos bad = true
line_pos quiet = true
line_pos (says s) = true
line_pos (gives xs) = every pos xs

is_line_pos : {l : List ℕ} {k : Line} → IsLine l k → line_pos k ≡ true
unfolding line_pos
is_line_pos empty = refl
is_line_pos c_alone = refl
is_line_pos (c_blank m) = refl
is_line_pos (s_line s) = refl
is_line_pos (v_line w ws h) = words_pos (w ∷ ws) h

line_of_pos : (l : List ℕ) → line_pos (line_of l) ≡ true
unfolding line_pos
line_of_pos l = go (line_shows l)
  where
    go : (line_of l ≡ bad) ⊎ IsLine l (line_of l) → line_pos (line_of l) ≡ true
    go (inl e) = ap line_pos e
    go (inr i) = is_line_pos i

every_append : (xs ys : List Word) → every pos xs ≡ true → every pos ys ≡ true → every pos (xs ++ ys) ≡ true
unfolding every
every_append [] ys h k = k
every_append (x ∷ xs) ys h k = let g = both (pos x) (every pos xs) h in and_both g.0 (every_append xs ys g.1 k)

literals_pos : (ls : List (List ℕ)) → every pos (literals (map line_of ls)) ≡ true
unfolding every literals line_pos
literals_pos [] = refl
literals_pos (l ∷ ls) = go (line_of l) (line_of_pos l) (literals_pos ls)
  where
    go : (x : Line) → line_pos x ≡ true → every pos (literals (map line_of ls)) ≡ true → every pos (literals (x ∷ map line_of ls)) ≡ true
    go bad h i = i
    go quiet h i = i
    go (says s) h i = i
    go (gives xs) h i = every_append xs (literals (map line_of ls)) h i

pub settle_sat : (ss : List Status) (ys xs : List Word) → settle ss ys ≡ Sat xs → ys ≡ xs
settle_sat ss ys xs h = (subst (Settled ss ys) h (settled ss ys)).1

pub bad_first_sat : (n : ℕ) (a : Parsed) (xs : List Word) → bad_first n a ≡ Sat xs → a ≡ Sat xs
unfolding bad_first
bad_first_sat zero a xs h = h
bad_first_sat (suc n) a xs h = never cc

before_pos : (xs : List Word) → every pos xs ≡ true → every (leb 1) (variables (before_nought xs)) ≡ true
unfolding every before_nought pos
before_pos [] h = refl
before_pos (stop ∷ xs) h = refl
before_pos (lit l ∷ xs) h = let g = both (leb 1 l.variable) (every pos xs) h in and_both g.0 (before_pos xs g.1)

-- each variable of a reply is at least 1
reply_pos : (t : List ℕ) (xs : List Word) → answer_of t ≡ Sat xs → every (leb 1) (variables (before_nought xs)) ≡ true
unfolding answer_of judged
reply_pos t xs h =
    let e = settle_sat _ _ xs (bad_first_sat _ _ xs h) in
    before_pos xs (subst (λ z. every pos z ≡ true) e (literals_pos (lines t)))

-- and so is each of a model
pub gives_pos : (t : List ℕ) (xs : List Literal) → GivesModel t xs → every (leb 1) (variables xs) ≡ true
gives_pos t xs g = subst (λ z. every (leb 1) (variables z) ≡ true) (before_nought_is xs) (before_pos _ (subst (λ z. every pos z ≡ true) g.value_words (literals_pos (lines t))))

-- row 7 by counting
pub reply_missing : (t : List ℕ) (xs : List Word) (n : ℕ) → answer_of t ≡ Sat xs → first_wrong n [] 1 (variables (before_nought xs)) ≡ 0 → all_there n (variables (before_nought xs)) ≡ leb n (length (variables (before_nought xs)))
reply_missing t xs n h k = missing n (variables (before_nought xs)) (reply_pos t xs h) k
