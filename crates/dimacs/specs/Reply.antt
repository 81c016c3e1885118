-- A solver's reply: its lines and literals, in the words of document 01, "A solver's reply". What is computed here is held
-- to document 01's sentence, which Forms.antt has as a list of forms, by the laws of proofs/Words.antt. Assumes nothing: these are definitions.
use Rattle.std.specs.Prelude.{Bool, true, false, cond, ◌&&◌, List, [], ◌∷◌, ◌++◌, map, ℕ, ◌+◌, ◌-◌, ◌*◌, ◌<◌, eqb, leb, length}
use Rattle.facts.specs.Same.{same}
use Rattle.dimacs.specs.Clause.{Literal}

-- the byte b before the first of the parts
unfoldable pub onto : ℕ → List (List ℕ) → List (List ℕ)
onto b [] = (b ∷ []) ∷ []
onto b (l ∷ ls) = (b ∷ l) ∷ ls

-- the parts of a text between its bytes s: one more than there are such bytes
unfoldable pub split : ℕ → List ℕ → List (List ℕ)
split s [] = [] ∷ []
split s (b ∷ t) = cond (eqb b s) ([] ∷ split s t) (onto b (split s t))

-- an empty rest after the last LF is no line
unfoldable pub kept : List (List ℕ) → List (List ℕ)
kept [] = []
kept ([] ∷ []) = []
kept ((b ∷ l) ∷ []) = (b ∷ l) ∷ []
kept (l ∷ m ∷ ls) = l ∷ kept (m ∷ ls)

-- LF ends a line; the last may lack it
unfoldable pub lines : List ℕ → List (List ℕ)
lines t = kept (split 10 t)

-- line p of a text, counted from 1, has ended: its LF is there
abbrev pub Ended : List ℕ → ℕ → Type 0
Ended t p = p < length (split 10 t)

-- every one passes
unfoldable pub every : {A : Type 0} → (A → Bool) → List A → Bool
every p [] = true
every p (x ∷ xs) = p x && every p xs

-- a word of a `v` line: `0`, or a variable, plain or negated
pub data Word : Type 0 where
  stop : Word
  lit : Literal → Word

-- a digit
abbrev pub is_digit : ℕ → Bool
is_digit b = leb 48 b && leb b 57

-- one to three digits, the first not 0: that one, and at most two more
unfoldable pub is_number : List ℕ → Bool
is_number [] = false
is_number (b ∷ w) = (leb 49 b && leb b 57) && (leb (length w) 2 && every is_digit w)

-- the value of digits after n
unfoldable pub decimal : ℕ → List ℕ → ℕ
decimal n [] = n
decimal n (b ∷ w) = decimal (n * 10 + (b - 48)) w

-- without its minus
unfoldable pub unsigned : List ℕ → List ℕ
unsigned [] = []
unsigned (b ∷ w) = cond (eqb b 45) w (b ∷ w)

-- with a minus
unfoldable pub negative : List ℕ → Bool
negative [] = false
negative (b ∷ w) = eqb b 45

-- `0`
abbrev pub nought : List ℕ
nought = 48 ∷ []

-- a literal is `0`, or an optional minus and one to three digits, the first not 0: `literal_is` and `literal_shows` say that these are those, and no others
unfoldable pub is_literal : List ℕ → Bool
is_literal w = cond (same w nought) true (is_number (unsigned w))

-- and which it is, by the same two laws
unfoldable pub literal : List ℕ → Word
literal w = cond (same w nought) stop (lit (record { variable = decimal 0 (unsigned w); negated = negative w }))

-- the three words of an `s` line
pub data Status : Type 0 where
  satisfiable : Status
  unsatisfiable : Status
  unknown : Status

-- SATISFIABLE, UNSATISFIABLE, UNKNOWN
unfoldable pub text : Status → List ℕ
text satisfiable = 83 ∷ 65 ∷ 84 ∷ 73 ∷ 83 ∷ 70 ∷ 73 ∷ 65 ∷ 66 ∷ 76 ∷ 69 ∷ []
text unsatisfiable = 85 ∷ 78 ∷ 83 ∷ 65 ∷ 84 ∷ 73 ∷ 83 ∷ 70 ∷ 73 ∷ 65 ∷ 66 ∷ 76 ∷ 69 ∷ []
text unknown = 85 ∷ 78 ∷ 75 ∷ 78 ∷ 79 ∷ 87 ∷ 78 ∷ []

-- what a line is: not well-formed; empty or a `c` line; an `s` line; a `v` line
pub data Line : Type 0 where
  bad : Line
  quiet : Line
  says : Status → Line
  gives : List Word → Line

-- one of three words
unfoldable pub status_word : List ℕ → Line
status_word w =
    cond (same w (text satisfiable)) (says satisfiable)
    (cond (same w (text unsatisfiable)) (says unsatisfiable)
    (cond (same w (text unknown)) (says unknown)
    bad))

-- after `s` and a blank: one word
unfoldable pub status_line : List (List ℕ) → Line
status_line [] = bad
status_line (w ∷ []) = status_word w
status_line (w ∷ v ∷ ws) = bad

-- after `v`: one or more times a blank and a literal
unfoldable pub value_line : List (List ℕ) → Line
value_line [] = bad
value_line (w ∷ ws) = cond (every is_literal (w ∷ ws)) (gives (map literal (w ∷ ws))) bad

-- by the first word of a line: none, `c`, `s` or `v`
unfoldable pub tagged : List (List ℕ) → Line
tagged [] = bad
tagged (w ∷ ws) =
    cond (same w (99 ∷ [])) quiet
    (cond (same w (115 ∷ [])) (status_line ws)
    (cond (same w (118 ∷ [])) (value_line ws)
    bad))

-- a line is empty, or its words, between single blanks, are as above: `line_is` and `line_shows` say that it is not `bad` exactly for the lines of
-- document 01's sentence, and which it is
unfoldable pub line_of : List ℕ → Line
line_of [] = quiet
line_of (b ∷ l) = tagged (split 32 (b ∷ l))

-- the `s` lines, in their order
unfoldable pub statuses : List Line → List Status
statuses [] = []
statuses (bad ∷ ks) = statuses ks
statuses (quiet ∷ ks) = statuses ks
statuses (says s ∷ ks) = s ∷ statuses ks
statuses (gives xs ∷ ks) = statuses ks

-- the literals of all `v` lines together; a `v` line has at least one
unfoldable pub literals : List Line → List Word
literals [] = []
literals (bad ∷ ks) = literals ks
literals (quiet ∷ ks) = literals ks
literals (says s ∷ ks) = literals ks
literals (gives xs ∷ ks) = xs ++ literals ks

-- they hold one `0`, the last of them: `closed_is` and `is_closed` (proofs/Meaning.antt)
unfoldable pub closed : List Word → Bool
closed [] = false
closed (stop ∷ []) = true
closed (stop ∷ x ∷ xs) = false
closed (lit l ∷ xs) = closed xs
