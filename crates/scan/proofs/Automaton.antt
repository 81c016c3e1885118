-- What is left of a line, by the mode reached: one byte moves both on, and at the end the mode says what the line comes to. Assumes nothing.
use mathlib.Core.Path.{◌≡◌, refl, sym, ap, ◌∙◌}
use mathlib.Core.Bool.{Bool, true, false, cond, ◌&&◌}
use mathlib.Core.List.{List, [], ◌∷◌, ◌++◌, map, append_assoc, append-nil}
use Prim.Native.Nat.{ℕ, suc, ◌+◌, ◌-◌, ◌*◌, ◌≤◌, ◌<◌}
use native.Mathlib.Omega.{arith}
use native.Mathlib.Nat.{zero-add}
use lib.Dec.{eqb, leb, ltb, leb-zero, leb-suc-suc, leb-suc-zero}
use lib.ListN.{length, get_or, take, drop, length-drop}
use lib.Seq.{take-suc, get_or-drop}
use borrow.Author.Tests.{eqb-true, ne_eqb, leb-true, lt-ltb, le-ltb, ltb-true, ltb-false}
use Rattle.std.specs.Prelude.{Option, Some, None}
use Rattle.facts.specs.Same.{same}
use Rattle.facts.proofs.Bools.{both}
use Rattle.dimacs.specs.Reply.{onto, split, every, is_digit, Word, stop, lit, is_number, decimal, is_literal, literal, unsigned, negative, Line, bad, quiet, gives, status_line, value_line, tagged, line_of, literals}
use Rattle.dimacs.proofs.Cut.{StatusWord, no_status, a_status, status_word_view}
use Rattle.dimacs.proofs.Words.{split-cons}
use Rattle.scan.specs.declared.line.Mode.{Mode}
use Rattle.scan.specs.declared.line.Mode.TheVariants.{Start, LetterC, Comment, LetterS, Said, LetterV, Gap, Minus, Number, Zero, Bad}
use Rattle.scan.specs.declared.line.Lit.{Lit}
use Rattle.scan.specs.declared.line.Lit.TheVariants.{Stop, Var}
use Rattle.scan.specs.Line.{start_mode, blank_mode, is_leading, leading_mode, gap_mode, number_mode, step_mode, mode_literal, line_kind, ModeAt, bytes_from, mode_kind}
use Rattle.scan.proofs.StatusWords.{status_blank, has_in}
use Rattle.scan.proofs.Outcome.{Moves, still, silent, value_moves}

-- a literal of the variable v
abbrev signed : Bool → ℕ → Word
signed n v = lit (record { variable = v; negated = n })

-- a line by its words: an empty one, or as `tagged` says
begun : List (List ℕ) → Line
begun [] = bad
begun ([] ∷ []) = quiet
begun ([] ∷ w ∷ ws) = bad
begun ((b ∷ w) ∷ ws) = tagged ((b ∷ w) ∷ ws)

-- bytes before the first of some words
glued : List ℕ → List (List ℕ) → List (List ℕ)
glued p [] = p ∷ []
glued p (w ∷ ws) = (p ++ w) ∷ ws

-- how many digits may follow those of v, which has one at least
abbrev room : ℕ → ℕ
room v = cond (ltb v 10) 2 (cond (ltb v 100) 1 0)

-- digits after the number v, at most r more, and then words
number_line : Bool → ℕ → ℕ → List (List ℕ) → Line
number_line n v r [] = bad
number_line n v r (w ∷ ws) = cond ((leb (length w) r && every is_digit w) && every is_literal ws) (gives (signed n (decimal v w) ∷ map literal ws)) bad

-- what a line of the text t comes to, of which a mode was read up to the place i, and these words are left
pub words : List ℕ → ℕ → Mode → List (List ℕ) → Line
words t i Start ws = begun ws
words t i LetterC ws = tagged (onto 99 ws)
words t i Comment ws = quiet
words t i LetterS ws = tagged (onto 115 ws)
words t i (Said from) ws = status_line (glued (bytes_from from i t) ws)
words t i LetterV ws = tagged (onto 118 ws)
words t i Gap ws = value_line ws
words t i Minus ws = value_line (onto 45 ws)
words t i (Number n v) ws = number_line n v (room v) ws
words t i Zero ws = value_line (onto 48 ws)
words t i Bad ws = bad

-- where no line begins so, none comes of it
pub words_bad : (t : List ℕ) (i : ℕ) (ws : List (List ℕ)) → words t i Bad ws ≡ bad
unfolding words
words_bad t i ws = refl

-- one byte before some words
abbrev cut1 : ℕ → List (List ℕ) → List (List ℕ)
cut1 b ws = cond (eqb b 32) ([] ∷ ws) (onto b ws)

-- the words that end at a byte within a line: at a blank, that of the mode
unfoldable pub list_of : Option Lit → List Word
list_of None = []
list_of (Some Stop) = stop ∷ []
list_of (Some (Var n v)) = signed n v ∷ []

abbrev pub emits : Mode → ℕ → List Word
emits m b = cond (eqb b 32) (list_of (mode_literal m)) []

-- a whole line
pub line_words : (t : List ℕ) (i : ℕ) (l : List ℕ) → line_of l ≡ words t i Start (split 32 l)
unfolding words begun line_of split onto tagged same
line_words t i [] = refl
line_words t i (b ∷ l) = let s = split-cons 32 l in rw s.2 (go s.0 s.1 (eqb b 32))
  where
    go : (w : List ℕ) (ws : List (List ℕ)) (x : Bool) → tagged (cond x ([] ∷ w ∷ ws) (onto b (w ∷ ws))) ≡ begun (cond x ([] ∷ w ∷ ws) (onto b (w ∷ ws)))
    go w ws true = refl
    go w ws false = refl

-- what is left of the room for digits after one more
room_less : (v d : ℕ) → 1 ≤ v → v < 100 → d < 10 → room v ≡ suc (room (v * 10 + d))
room_less v d h k l = go (ltb v 10) refl
  where
    go : (x : Bool) → ltb v 10 ≡ x → cond x 2 (cond (ltb v 100) 1 0) ≡ suc (room (v * 10 + d))
    go true e = let z = ltb-true v 10 e in simp (le-ltb (v * 10 + d) 10 (omega arith), lt-ltb (v * 10 + d) 100 (omega arith))
    go false e = let z = ltb-false v 10 e in simp (lt-ltb v 100 k, le-ltb (v * 10 + d) 10 (omega arith), le-ltb (v * 10 + d) 100 (omega arith))

room-none : (v : ℕ) → ltb v 100 ≡ false → room v ≡ 0
room-none v h = let k = ltb-false v 100 h in simp (h, le-ltb v 10 (omega arith))

-- a byte that may begin a number is none of the others
record Leads (b : ℕ) : Type 0 where
  blank : eqb b 32 ≡ false
  sign : eqb b 45 ≡ false
  nought : eqb b 48 ≡ false
  low : leb 49 b ≡ true
  high : leb b 57 ≡ true
  small : ltb (b - 48) 10 ≡ true

leads : (b : ℕ) → is_leading b ≡ true → Leads b
leads b h =
    let g = both (leb 49 b) (leb b 57) h in
    let l = leb-true 49 b g.0 in
    let k = leb-true b 57 g.1 in
    record { blank = ne_eqb b 32 (λ e. omega arith); sign = ne_eqb b 45 (λ e. omega arith); nought = ne_eqb b 48 (λ e. omega arith); low = g.0; high = g.1; small = lt-ltb (b - 48) 10 (omega arith) }

bytes-none : (i : ℕ) (t : List ℕ) → bytes_from i i t ≡ []
bytes-none i t = ap (λ n. take n (drop i t)) (let h : i - i ≡ 0 = omega arith in h)

bytes_more : (from i : ℕ) (t : List ℕ) → from ≤ i → i < length t → bytes_from from (i + 1) t ≡ bytes_from from i t ++ (get_or t i 0 ∷ [])
bytes_more from i t h k =
    let e : i + 1 - from ≡ suc (i - from) = omega arith in
    let f : from + (i - from) ≡ i = omega arith in
    ap (λ n. take n (drop from t)) e ∙ take-suc (drop from t) (i - from) 0 (simp length-drop (omega arith)) ∙ ap (λ z. take (i - from) (drop from t) ++ (z ∷ [])) (get_or-drop from t (i - from) 0 ∙ ap (λ n. get_or t n 0) f)

-- one byte b before the words w ∷ ws, up to the place j of the text t
module _ (t : List ℕ) (j b : ℕ) (w : List ℕ) (ws : List (List ℕ)) where
  abbrev After : Mode → Line
  After m = words t j m (w ∷ ws)

  start_none : (x : Bool) → eqb b 99 ≡ false → eqb b 115 ≡ false → eqb b 118 ≡ false → begun (cond x ([] ∷ w ∷ ws) (onto b (w ∷ ws))) ≡ bad
  unfolding begun onto tagged same
  start_none true h1 h2 h3 = refl
  start_none false h1 h2 h3 = simp (h1, h2, h3)

  start_step : begun (cut1 b (w ∷ ws)) ≡ After (start_mode b)
  unfolding words begun onto
  start_step = go (eqb b 99) refl (eqb b 115) refl (eqb b 118) refl
    where
      go : (x : Bool) → eqb b 99 ≡ x → (y : Bool) → eqb b 115 ≡ y → (z : Bool) → eqb b 118 ≡ z → begun (cut1 b (w ∷ ws)) ≡ After (cond x LetterC (cond y LetterS (cond z LetterV Bad)))
      go true e y f z g = rw (eqb-true b 99 e) refl
      go false e true f z g = rw (eqb-true b 115 f) refl
      go false e false f true g = rw (eqb-true b 118 g) refl
      go false e false f false g = start_none (eqb b 32) e f g

  -- where a blank leads to m, with the words ys that end there, and no other byte to anything
  blank_step : (f : List (List ℕ) → Line) (ys : List Word) (m : Mode) → Moves ys (f ([] ∷ w ∷ ws)) (After m) → f ((b ∷ w) ∷ ws) ≡ bad → Moves (cond (eqb b 32) ys []) (f (cut1 b (w ∷ ws))) (After (blank_mode b m))
  unfolding words onto
  blank_step f ys m h k = go (eqb b 32)
    where
      go : (x : Bool) → Moves (cond x ys []) (f (cond x ([] ∷ w ∷ ws) (onto b (w ∷ ws)))) (After (cond x m Bad))
      go true = h
      go false = still k

  -- a number begins, with or without a minus before it
  plain-number : Leads b → value_line ((b ∷ w) ∷ ws) ≡ After (Number false (b - 48))
  unfolding words value_line number_line every is_literal literal same unsigned negative is_number decimal
  plain-number g =
      simp (g.sign, g.nought, g.low, g.high, g.small)
      (ap (λ v. cond ((leb (length w) 2 && every is_digit w) && every is_literal ws) (gives (signed false (decimal v w) ∷ map literal ws)) bad) (zero-add (b - 48)))

  minus_number : Leads b → value_line ((45 ∷ b ∷ w) ∷ ws) ≡ After (Number true (b - 48))
  unfolding words value_line number_line every is_literal literal same unsigned negative is_number decimal
  minus_number g = simp (g.low, g.high, g.small, zero-add)

  gap_none : (x : Bool) → eqb b 45 ≡ false → eqb b 48 ≡ false → is_leading b ≡ false → value_line (cond x ([] ∷ w ∷ ws) (onto b (w ∷ ws))) ≡ bad
  unfolding value_line onto every is_literal same unsigned is_number
  gap_none true h1 h2 h3 = refl
  gap_none false h1 h2 h3 = simp (h1, h2, h3)

  gap_step : value_line (cut1 b (w ∷ ws)) ≡ After (gap_mode b)
  unfolding words onto
  gap_step = go (eqb b 45) refl (eqb b 48) refl (is_leading b) refl
    where
      go : (x : Bool) → eqb b 45 ≡ x → (y : Bool) → eqb b 48 ≡ y → (z : Bool) → is_leading b ≡ z → value_line (cut1 b (w ∷ ws)) ≡ After (cond x Minus (cond y Zero (cond z (Number false (b - 48)) Bad)))
      go true e y f z g = rw (eqb-true b 45 e) refl
      go false e true f z g = rw (eqb-true b 48 f) refl
      go false e false f true g = let l = leads b g in simp l.blank (plain-number l)
      go false e false f false g = gap_none (eqb b 32) e f g

  minus_none : (x : Bool) → is_leading b ≡ false → value_line (onto 45 (cond x ([] ∷ w ∷ ws) (onto b (w ∷ ws)))) ≡ bad
  unfolding value_line onto every is_literal same unsigned is_number
  minus_none true h = refl
  minus_none false h = simp h

  minus_step : value_line (onto 45 (cut1 b (w ∷ ws))) ≡ After (leading_mode true b)
  unfolding words onto
  minus_step = go (is_leading b) refl
    where
      go : (z : Bool) → is_leading b ≡ z → value_line (onto 45 (cut1 b (w ∷ ws))) ≡ After (cond z (Number true (b - 48)) Bad)
      go true g = let l = leads b g in simp l.blank (minus_number l)
      go false g = minus_none (eqb b 32) g

  -- a number goes on, or ends
  module _ (n : Bool) (v : ℕ) where
    no_digit : (r : ℕ) → is_digit b ≡ false → number_line n v r ((b ∷ w) ∷ ws) ≡ bad
    unfolding number_line every
    no_digit r h = go (leb (length (b ∷ w)) r)
      where
        go : (x : Bool) → cond ((x && (is_digit b && every is_digit w)) && every is_literal ws) (gives (signed n (decimal v (b ∷ w)) ∷ map literal ws)) bad ≡ bad
        go true = simp h
        go false = refl

    more_digits : 1 ≤ v → v < 100 → is_digit b ≡ true → number_line n v (room v) ((b ∷ w) ∷ ws) ≡ After (Number n (v * 10 + (b - 48)))
    unfolding words number_line every decimal
    more_digits h k d =
        let g = both (leb 48 b) (leb b 57) d in
        let l = leb-true b 57 g.1 in
        rw (room_less v (b - 48) h k (omega arith)) (simp (d, leb-suc-suc))

    no_room : ltb v 100 ≡ false → number_line n v (room v) ((b ∷ w) ∷ ws) ≡ bad
    unfolding number_line
    no_room h = rw (room-none v h) (simp leb-suc-zero)

    number_ends : Moves (signed n v ∷ []) (number_line n v (room v) ([] ∷ w ∷ ws)) (value_line (w ∷ ws))
    unfolding number_line value_line every decimal
    number_ends = simp leb-zero (value_moves (every is_literal (w ∷ ws)) (signed n v) (map literal (w ∷ ws)))

    number_step : 1 ≤ v → Moves (cond (eqb b 32) (signed n v ∷ []) []) (number_line n v (room v) (cut1 b (w ∷ ws))) (After (number_mode n v b))
    unfolding words onto
    number_step h = go (eqb b 32) (is_digit b) refl (ltb v 100) refl
      where
        go : (x y : Bool) → is_digit b ≡ y → (z : Bool) → ltb v 100 ≡ z → Moves (cond x (signed n v ∷ []) []) (number_line n v (room v) (cond x ([] ∷ w ∷ ws) (onto b (w ∷ ws)))) (After (cond x Gap (cond y (cond z (Number n (v * 10 + (b - 48))) Bad) Bad)))
        go true y d z l = number_ends
        go false true d true l = still (more_digits h (ltb-true v 100 l) d)
        go false true d false l = still (no_room l)
        go false false d z l = still (no_digit (room v) d)

  -- a status word goes on
  said_step : (p : List ℕ) → status_line (glued p (cut1 b (w ∷ ws))) ≡ status_line (glued (p ++ (b ∷ [])) (w ∷ ws))
  unfolding glued onto status_line
  said_step p = go (eqb b 32) refl ∙ ap (λ z. status_line (z ∷ ws)) (sym (append_assoc p (b ∷ []) w))
    where
      go : (x : Bool) → eqb b 32 ≡ x → status_line (glued p (cond x ([] ∷ w ∷ ws) (onto b (w ∷ ws)))) ≡ status_line ((p ++ b ∷ w) ∷ ws)
      go true e = status_blank (p ++ b ∷ w) ws (rw (eqb-true b 32 e) (has_in 32 p w))
      go false e = refl

-- ONE BYTE ON: the words that are left and the mode go along, and a word that ends there counts as read
module _ (t : List ℕ) (i : ℕ) (k : i < length t) where
  abbrev byte : ℕ
  byte = get_or t i 0

  words_step : (w : List ℕ) (ws : List (List ℕ)) (m : Mode) → ModeAt m i → Moves (emits m byte) (words t i m (cut1 byte (w ∷ ws))) (words t (i + 1) (step_mode m byte (i + 1)) (w ∷ ws))
  unfolding words list_of onto glued tagged same value_line every is_literal literal unsigned is_number
  words_step w ws Start h = silent (eqb byte 32) (start_step t (i + 1) byte w ws)
  words_step w ws LetterC h = blank_step t (i + 1) byte w ws (λ z. tagged (onto 99 z)) [] Comment (still refl) refl
  words_step w ws Comment h = silent (eqb byte 32) refl
  words_step w ws LetterS h = blank_step t (i + 1) byte w ws (λ z. tagged (onto 115 z)) [] (Said (i + 1)) (still (ap (λ p. status_line ((p ++ w) ∷ ws)) (sym (bytes-none (i + 1) t)))) refl
  words_step w ws (Said from) h = silent (eqb byte 32) (said_step t (i + 1) byte w ws (bytes_from from i t) ∙ ap (λ p. status_line (glued p (w ∷ ws))) (sym (bytes_more from i t h k)))
  words_step w ws LetterV h = blank_step t (i + 1) byte w ws (λ z. tagged (onto 118 z)) [] Gap (still refl) refl
  words_step w ws Gap h = silent (eqb byte 32) (gap_step t (i + 1) byte w ws)
  words_step w ws Minus h = silent (eqb byte 32) (minus_step t (i + 1) byte w ws)
  words_step w ws (Number n v) h = number_step t (i + 1) byte w ws n v h
  words_step w ws Zero h = blank_step t (i + 1) byte w ws (λ z. value_line (onto 48 z)) (stop ∷ []) Gap (value_moves (every is_literal (w ∷ ws)) stop (map literal (w ∷ ws))) refl
  words_step w ws Bad h = silent (eqb byte 32) refl

  pub line_step : (l : List ℕ) (m : Mode) → ModeAt m i → Moves (emits m byte) (words t i m (split 32 (byte ∷ l))) (words t (i + 1) (step_mode m byte (i + 1)) (split 32 l))
  unfolding split
  line_step l m h = let s = split-cons 32 l in rw s.2 (words_step s.0 s.1 m h)

-- a mode stays one: a status word stays where it began, and a number grows
mode_cond : (x : Bool) (m m' : Mode) (i : ℕ) → ModeAt m i → ModeAt m' i → ModeAt (cond x m m') i
mode_cond true m m' i f g = f
mode_cond false m m' i f g = g

mode_leading : (n : Bool) (b i : ℕ) → ModeAt (leading_mode n b) i
mode_leading n b i = go (is_leading b) refl
  where
    go : (x : Bool) → is_leading b ≡ x → ModeAt (cond x (Number n (b - 48)) Bad) i
    go true e = let l = leb-true 49 b (both (leb 49 b) (leb b 57) e).0 in omega arith
    go false e = tt

pub mode_step : (m : Mode) (b i : ℕ) → ModeAt m i → ModeAt (step_mode m b (i + 1)) (i + 1)
mode_step Start b i h = mode_cond (eqb b 99) _ _ (i + 1) tt (mode_cond (eqb b 115) _ _ (i + 1) tt (mode_cond (eqb b 118) _ _ (i + 1) tt tt))
mode_step LetterC b i h = mode_cond (eqb b 32) _ _ (i + 1) tt tt
mode_step Comment b i h = tt
mode_step LetterS b i h = mode_cond (eqb b 32) _ _ (i + 1) (let z : i + 1 ≤ i + 1 = omega arith in z) tt
mode_step (Said from) b i h = omega arith
mode_step LetterV b i h = mode_cond (eqb b 32) _ _ (i + 1) tt tt
mode_step Gap b i h = mode_cond (eqb b 45) _ _ (i + 1) tt (mode_cond (eqb b 48) _ _ (i + 1) tt (mode_leading false b (i + 1)))
mode_step Minus b i h = mode_leading true b (i + 1)
mode_step (Number n v) b i h = mode_cond (eqb b 32) _ _ (i + 1) tt (mode_cond (is_digit b) _ _ (i + 1) (mode_cond (ltb v 100) _ _ (i + 1) (let z : 1 ≤ v * 10 + (b - 48) = omega arith in z) tt) tt)
mode_step Zero b i h = mode_cond (eqb b 32) _ _ (i + 1) tt tt
mode_step Bad b i h = tt

-- THE END OF A LINE: what it comes to and its last word are what the mode says
pub line_ends : (t : List ℕ) (i : ℕ) (m : Mode) → (mode_kind t m i ≡ line_kind (words t i m ([] ∷ []))) × (list_of (mode_literal m) ≡ literals (words t i m ([] ∷ []) ∷ []))
unfolding line_kind words begun glued onto tagged status_line value_line number_line same every is_literal literal unsigned is_number decimal list_of literals
line_ends t i Start = (refl, refl)
line_ends t i LetterC = (refl, refl)
line_ends t i Comment = (refl, refl)
line_ends t i LetterS = (refl, refl)
line_ends t i (Said from) = rw (append-nil (bytes_from from i t)) (refl, go (status_word_view (bytes_from from i t)))
  where
    go : {x : Line} → StatusWord (bytes_from from i t) x → [] ≡ literals (x ∷ [])
    go no_status = refl
    go (a_status s e) = refl
line_ends t i LetterV = (refl, refl)
line_ends t i Gap = (refl, refl)
line_ends t i Minus = (refl, refl)
line_ends t i (Number n v) = simp leb-zero (refl, refl)
line_ends t i Zero = (refl, refl)
line_ends t i Bad = (refl, refl)
