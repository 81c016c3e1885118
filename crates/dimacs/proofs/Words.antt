-- `line_of` and `literal` know exactly the lines and literals of document 01's sentence. Assumes nothing.
use mathlib.Core.Path.{◌≡◌, refl, sym, ap, subst, ◌∙◌}
use mathlib.Core.Bool.{Bool, true, false, cond, ◌&&◌, ◌||◌}
use mathlib.Core.List.{List, [], ◌∷◌, ◌++◌, append-nil}
use mathlib.Core.Logic.{◌⊎◌, inl, inr}
use Prim.Native.Nat.{ℕ, ◌≤◌, ◌<◌}
use native.Mathlib.Omega.{arith}
use lib.Dec.{eqb, leb}
use lib.ListN.{length}
use borrow.Author.Tests.{eqb-true, eq-eqb, ne_eqb, leb-true, le-leb}
use Rattle.facts.specs.Same.{same}
use Rattle.facts.proofs.Same.{same_true}
use Rattle.facts.proofs.Bools.{and_both, both, neither, or-both, not-both}
use Rattle.dimacs.specs.Reply.{onto, split, every, is_digit, Word, stop, lit, is_number, decimal, nought, is_literal, literal, unsigned, negative, satisfiable, unsatisfiable, unknown, text, Line, bad, quiet, says, status_word, status_line, value_line, tagged, line_of}
use Rattle.dimacs.specs.Forms.{IsLiteral, a_nought, a_plain, a_negated, spaced, IsLine, empty, c_alone, c_blank, s_line, v_line}
use Rattle.dimacs.proofs.Cut.{StatusWord, no_status, a_status, status_word_view}

-- the words of a text, with single blanks between them, are the text
joined : (l : List ℕ) → (w : List ℕ) × (ws : List (List ℕ)) × (split 32 l ≡ w ∷ ws) × (l ≡ w ++ spaced ws)
unfolding split onto spaced
joined [] = ([], [], refl, refl)
joined (b ∷ l) = go (eqb b 32) refl (joined l)
  where
    go : (x : Bool) → eqb b 32 ≡ x → (w : List ℕ) × (ws : List (List ℕ)) × (split 32 l ≡ w ∷ ws) × (l ≡ w ++ spaced ws) → (w : List ℕ) × (ws : List (List ℕ)) × (cond x ([] ∷ split 32 l) (onto b (split 32 l)) ≡ w ∷ ws) × (b ∷ l ≡ w ++ spaced ws)
    go true e j = let f = eqb-true b 32 e in ([], j.0 ∷ j.1, ap (λ z. [] ∷ z) j.2, ap (λ z. z ∷ l) f ∙ ap (λ z. 32 ∷ z) j.3)
    go false e j = (b ∷ j.0, j.1, ap (onto b) j.2, ap (λ z. b ∷ z) j.3)

Shows : List ℕ → Line → Type 0
Shows l k = (k ≡ bad) ⊎ IsLine l k

shows_cond : (b : Bool) (l : List ℕ) (x y : Line) → (b ≡ true → Shows l x) → Shows l y → Shows l (cond b x y)
shows_cond true l x y f g = f refl
shows_cond false l x y f g = g

c_shows : (ws : List (List ℕ)) → Shows (99 ∷ spaced ws) quiet
unfolding spaced Shows
c_shows [] = inr c_alone
c_shows (w ∷ ws) = inr (c_blank (w ++ spaced ws))

s_shows : (ws : List (List ℕ)) → Shows (115 ∷ spaced ws) (status_line ws)
unfolding spaced status_line Shows
s_shows [] = inl refl
s_shows (w ∷ []) = go (status_word_view w)
  where
    go : {x : Line} → StatusWord w x → Shows (115 ∷ 32 ∷ w ++ []) x
    go no_status = inl refl
    go (a_status s e) = inr (subst (λ z. IsLine (115 ∷ 32 ∷ z) (says s)) (sym (append-nil w ∙ e)) (s_line s))
s_shows (w ∷ v ∷ ws) = inl refl

v_shows : (ws : List (List ℕ)) → Shows (118 ∷ spaced ws) (value_line ws)
unfolding value_line Shows
v_shows [] = inl refl
v_shows (w ∷ ws) = shows_cond (every is_literal (w ∷ ws)) _ _ _ (λ h. inr (v_line w ws h)) (inl refl)

tag_shows : (w : List ℕ) (ws : List (List ℕ)) → Shows (w ++ spaced ws) (tagged (w ∷ ws))
unfolding tagged Shows
tag_shows w ws =
    shows_cond (same w (99 ∷ [])) _ _ _ (λ h. at (same_true w (99 ∷ []) h) (c_shows ws))
    (shows_cond (same w (115 ∷ [])) _ _ _ (λ h. at (same_true w (115 ∷ []) h) (s_shows ws))
    (shows_cond (same w (118 ∷ [])) _ _ _ (λ h. at (same_true w (118 ∷ []) h) (v_shows ws)) (inl refl)))
  where
    at : {v : List ℕ} {k : Line} → w ≡ v → Shows (v ++ spaced ws) k → Shows (w ++ spaced ws) k
    at {k = k} e h = subst (λ z. Shows (z ++ spaced ws) k) (sym e) h

-- what `line_of` says of a line is so
pub line_shows : (l : List ℕ) → (line_of l ≡ bad) ⊎ IsLine l (line_of l)
unfolding line_of Shows
line_shows [] = inr empty
line_shows (b ∷ l) =
    let j = joined (b ∷ l) in
    subst (λ z. Shows (b ∷ l) (tagged z)) (sym j.2) (subst (λ z. Shows z (tagged (j.0 ∷ j.1))) (sym j.3) (tag_shows j.0 j.1))

-- a text has one part at least
pub split-cons : (s : ℕ) (t : List ℕ) → (w : List ℕ) × (ws : List (List ℕ)) × (split s t ≡ w ∷ ws)
unfolding split onto
split-cons s [] = ([], [], refl)
split-cons s (b ∷ t) = go (eqb b s) (split s t)
  where
    go : (x : Bool) (ls : List (List ℕ)) → (w : List ℕ) × (ws : List (List ℕ)) × (cond x ([] ∷ ls) (onto b ls) ≡ w ∷ ws)
    go true ls = ([], ls, refl)
    go false [] = (b ∷ [], [], refl)
    go false (l ∷ ls) = (b ∷ l, ls, refl)

number_says : (b : ℕ) (u : List ℕ) → is_number (b ∷ u) ≡ true → ((leb 49 b && leb b 57) ≡ true) × (length u ≤ 2) × (every is_digit u ≡ true)
unfolding is_number
number_says b u h =
    let g = both (leb 49 b && leb b 57) (leb (length u) 2 && every is_digit u) h in
    let k = both (leb (length u) 2) (every is_digit u) g.1 in
    (g.0, leb-true (length u) 2 k.0, k.1)

says_number : (b : ℕ) (u : List ℕ) → (leb 49 b && leb b 57) ≡ true → length u ≤ 2 → every is_digit u ≡ true → is_number (b ∷ u) ≡ true
unfolding is_number
says_number b u h k d = and_both h (and_both (le-leb (length u) 2 k) d)

-- with or without a minus
number_shows : (w : List ℕ) → is_number (unsigned w) ≡ true → IsLiteral w (lit (record { variable = decimal 0 (unsigned w); negated = negative w }))
unfolding unsigned negative is_number
number_shows [] h = not-both h refl
number_shows (b ∷ w) h = go (eqb b 45) refl h
  where
    signed : (u : List ℕ) → is_number u ≡ true → IsLiteral (45 ∷ u) (lit (record { variable = decimal 0 u; negated = true }))
    signed [] h = not-both h refl
    signed (d ∷ u) h = let g = number_says d u h in a_negated d u g.0 g.1 g.2

    go : (x : Bool) → eqb b 45 ≡ x → is_number (cond x w (b ∷ w)) ≡ true → IsLiteral (b ∷ w) (lit (record { variable = decimal 0 (cond x w (b ∷ w)); negated = x }))
    go true e h = subst (λ z. IsLiteral (z ∷ w) (lit (record { variable = decimal 0 w; negated = true }))) (sym (eqb-true b 45 e)) (signed w h)
    go false e h = let g = number_says b w h in a_plain b w g.0 g.1 g.2

-- what `is_literal` passes is a literal
pub literal_shows : (w : List ℕ) → is_literal w ≡ true → IsLiteral w (literal w)
unfolding is_literal literal
literal_shows w = go (same w nought) refl
  where
    go : (x : Bool) → same w nought ≡ x → cond x true (is_number (unsigned w)) ≡ true → IsLiteral w (cond x stop (lit (record { variable = decimal 0 (unsigned w); negated = negative w })))
    go true e h = subst (λ z. IsLiteral z stop) (sym (same_true w nought e)) a_nought
    go false e h = number_shows w h

-- a byte stands in the text
unfoldable pub has : ℕ → List ℕ → Bool
has s [] = false
has s (b ∷ t) = eqb b s || has s t

-- no literal has a byte below the minus: no blank and no LF
module _ (s : ℕ) (low : s < 45) where
  pub digits-free : (w : List ℕ) → every is_digit w ≡ true → has s w ≡ false
  unfolding every has
  digits-free [] h = refl
  digits-free (b ∷ w) h =
      let g = both (is_digit b) (every is_digit w) h in
      let l = leb-true 48 b (both (leb 48 b) (leb b 57) g.0).0 in
      or-both (ne_eqb b s (λ e. omega arith)) (digits-free w g.1)

  number-free : (b : ℕ) (w : List ℕ) → (leb 49 b && leb b 57) ≡ true → every is_digit w ≡ true → has s (b ∷ w) ≡ false
  unfolding has
  number-free b w h d =
      let l = leb-true 49 b (both (leb 49 b) (leb b 57) h).0 in
      or-both (ne_eqb b s (λ e. omega arith)) (digits-free w d)

  is_literal-free : {w : List ℕ} {x : Word} → IsLiteral w x → has s w ≡ false
  unfolding has
  is_literal-free a_nought = or-both (ne_eqb 48 s (λ e. omega arith)) refl
  is_literal-free (a_plain b w h k d) = number-free b w h d
  is_literal-free (a_negated b w h k d) = or-both (ne_eqb 45 s (λ e. omega arith)) (number-free b w h d)

  pub literal-free : (w : List ℕ) → is_literal w ≡ true → has s w ≡ false
  literal-free w h = is_literal-free (literal_shows w h)

-- a word without the byte s, and what comes after it
module _ (s : ℕ) where
  pub split_end : (w : List ℕ) → has s w ≡ false → split s w ≡ w ∷ []
  unfolding split onto has
  split_end [] h = refl
  split_end (b ∷ w) h = let n = neither (eqb b s) (has s w) h in simp n.0 (ap (onto b) (split_end w n.1))

  pub split_at : (w r : List ℕ) → has s w ≡ false → split s (w ++ s ∷ r) ≡ w ∷ split s r
  unfolding split onto has
  split_at [] r h = simp (eq-eqb s s refl)
  split_at (b ∷ w) r h = let n = neither (eqb b s) (has s w) h in simp n.0 (ap (onto b) (split_at w r n.1))

pub has-append : (s : ℕ) (w v : List ℕ) → has s w ≡ false → has s v ≡ false → has s (w ++ v) ≡ false
unfolding has
has-append s [] v h k = k
has-append s (b ∷ w) v h k = let n = neither (eqb b s) (has s w) h in or-both n.0 (has-append s w v n.1 k)

-- words, a blank before each, are these words
split-spaced : (w : List ℕ) (ws : List (List ℕ)) → has 32 w ≡ false → every is_literal ws ≡ true → split 32 (w ++ spaced ws) ≡ w ∷ ws
unfolding spaced every
split-spaced w [] h k = ap (split 32) (append-nil w) ∙ split_end 32 w h
split-spaced w (v ∷ ws) h k =
    let g = both (is_literal v) (every is_literal ws) k in
    split_at 32 w (v ++ spaced ws) h ∙ ap (λ z. w ∷ z) (split-spaced v ws (literal-free 32 (omega arith) v g.0) g.1)

-- and what is so `line_of` says
pub line_is : {l : List ℕ} {k : Line} → IsLine l k → line_of l ≡ k
unfolding line_of split onto tagged status_line status_word value_line same text has
line_is empty = refl
line_is c_alone = refl
line_is (c_blank m) = refl
line_is (s_line satisfiable) = refl
line_is (s_line unsatisfiable) = refl
line_is (s_line unknown) = refl
line_is (v_line w ws h) = ap tagged (split-spaced (118 ∷ []) (w ∷ ws) refl h) ∙ simp h

-- and a literal passes, with its value
pub literal_is : {w : List ℕ} {x : Word} → IsLiteral w x → (is_literal w ≡ true) × (literal w ≡ x)
unfolding is_literal literal same unsigned negative
literal_is a_nought = (refl, refl)
literal_is (a_plain b w h k d) =
    let l = leb-true 49 b (both (leb 49 b) (leb b 57) h).0 in
    let e = ne_eqb b 48 (λ z. omega arith) in
    let f = ne_eqb b 45 (λ z. omega arith) in
    (simp (e, f) (says_number b w h k d), simp (e, f))
literal_is (a_negated b w h k d) = (says_number b w h k d, refl)
