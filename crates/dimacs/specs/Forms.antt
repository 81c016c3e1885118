-- Document 01's sentence on lines and literals, as a list of forms; the laws of Words say that `line_of` and `literal` know exactly these.
-- Assumes nothing: these are definitions.
use Rattle.std.specs.Prelude.{◌≡◌, true, false, ◌&&◌, List, [], ◌∷◌, ◌++◌, map, ℕ, ◌≤◌, leb, length}
use Rattle.dimacs.specs.Reply.{Word, stop, lit, is_digit, decimal, is_literal, literal, every, Status, text, Line, quiet, says, gives}

-- a literal is `0`, or an optional minus and one to three digits, the first not 0
pub data IsLiteral : List ℕ → Word → Type 0 where
  a_nought : IsLiteral (48 ∷ []) stop
  a_plain : (b : ℕ) (w : List ℕ) → (leb 49 b && leb b 57) ≡ true → length w ≤ 2 → every is_digit w ≡ true → IsLiteral (b ∷ w) (lit (record { variable = decimal 0 (b ∷ w); negated = false }))
  a_negated : (b : ℕ) (w : List ℕ) → (leb 49 b && leb b 57) ≡ true → length w ≤ 2 → every is_digit w ≡ true → IsLiteral (45 ∷ b ∷ w) (lit (record { variable = decimal 0 (b ∷ w); negated = true }))

-- a blank before each word
unfoldable pub spaced : List (List ℕ) → List ℕ
spaced [] = []
spaced (w ∷ ws) = 32 ∷ w ++ spaced ws

-- a well-formed line is empty; or `c` alone, or begins with `c` and a blank; or is `s` and one of three words;
-- or is `v` followed by one or more times a blank and a literal
pub data IsLine : List ℕ → Line → Type 0 where
  empty : IsLine [] quiet
  c_alone : IsLine (99 ∷ []) quiet
  c_blank : (m : List ℕ) → IsLine (99 ∷ 32 ∷ m) quiet
  s_line : (s : Status) → IsLine (115 ∷ 32 ∷ text s) (says s)
  v_line : (w : List ℕ) (ws : List (List ℕ)) → every is_literal (w ∷ ws) ≡ true → IsLine (118 ∷ spaced (w ∷ ws)) (gives (map literal (w ∷ ws)))
