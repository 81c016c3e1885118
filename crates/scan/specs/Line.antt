-- Stepping stones: a line of a reply, byte by byte, as the code of `line` has it. `words_step` and `line_ends` (proofs/Automaton.antt) say that mode and byte
-- go along with `line_of` of crate dimacs. Assumes nothing: these are definitions.
use Rattle.std.specs.Prelude.{Bool, true, false, cond, ◌&&◌, List, ℕ, ◌+◌, ◌-◌, ◌*◌, ◌≤◌, eqb, leb, ltb, take, drop, Option, Some, None}
use Rattle.dimacs.specs.Reply.{is_digit, Line, bad, quiet, says, gives, status_word}
use Rattle.dimacs.specs.Reply.{Status as StatusAs, satisfiable, unsatisfiable, unknown}
use Rattle.scan.specs.declared.line.Mode.{Mode}
use Rattle.scan.specs.declared.line.Mode.TheVariants.{Start, LetterC, Comment, LetterS, Said, LetterV, Gap, Minus, Number, Zero, Bad}
use Rattle.scan.specs.declared.line.Lit.{Lit}
use Rattle.scan.specs.declared.line.Lit.TheVariants.{Stop, Var}
use Rattle.scan.specs.declared.line.Status.{Status}
use Rattle.scan.specs.declared.line.Status.TheVariants.{Satisfiable, Unsatisfiable, Unknown}
use Rattle.scan.specs.declared.line.Kind.{Kind}
use Rattle.scan.specs.declared.line.Kind.TheVariants as kind

-- the first byte of a line
abbrev pub start_mode : ℕ → Mode
start_mode b = cond (eqb b 99) LetterC (cond (eqb b 115) LetterS (cond (eqb b 118) LetterV Bad))

-- a blank leads to m
abbrev pub blank_mode : ℕ → Mode → Mode
blank_mode b m = cond (eqb b 32) m Bad

-- the first digit of a number is not 0
abbrev pub is_leading : ℕ → Bool
is_leading b = leb 49 b && leb b 57

-- the first digit of a number, negated or not
abbrev pub leading_mode : Bool → ℕ → Mode
leading_mode n b = cond (is_leading b) (Number n (b - 48)) Bad

-- the first byte of a literal
abbrev pub gap_mode : ℕ → Mode
gap_mode b = cond (eqb b 45) Minus (cond (eqb b 48) Zero (leading_mode false b))

-- after the digits of v: a blank, or a further digit if v has at most two
abbrev pub number_mode : Bool → ℕ → ℕ → Mode
number_mode n v b = cond (eqb b 32) Gap (cond (is_digit b) (cond (ltb v 100) (Number n (v * 10 + (b - 48))) Bad) Bad)

-- one byte on; next is the place after it
abbrev pub step_mode : Mode → ℕ → ℕ → Mode
step_mode Start b next = start_mode b
step_mode LetterC b next = blank_mode b Comment
step_mode Comment b next = Comment
step_mode LetterS b next = blank_mode b (Said next)
step_mode (Said from) b next = Said from
step_mode LetterV b next = blank_mode b Gap
step_mode Gap b next = gap_mode b
step_mode Minus b next = leading_mode true b
step_mode (Number n v) b next = number_mode n v b
step_mode Zero b next = blank_mode b Gap
step_mode Bad b next = Bad

-- the literal that ends where a word ends, if one does
abbrev pub mode_literal : Mode → Option Lit
mode_literal Start = None
mode_literal LetterC = None
mode_literal Comment = None
mode_literal LetterS = None
mode_literal (Said from) = None
mode_literal LetterV = None
mode_literal Gap = None
mode_literal Minus = None
mode_literal (Number n v) = Some (Var n v)
mode_literal Zero = Some Stop
mode_literal Bad = None

-- the literal that ends at the byte b, if one does: LF and a blank end a word
abbrev pub ended_literal : Mode → ℕ → Option Lit
ended_literal m b = cond (eqb b 10) (mode_literal m) (cond (eqb b 32) (mode_literal m) None)

-- a status as the code has it
abbrev pub status_as : StatusAs → Status
status_as satisfiable = Satisfiable
status_as unsatisfiable = Unsatisfiable
status_as unknown = Unknown

-- what a line comes to: not well-formed, an `s` line with its status, any other
unfoldable pub line_kind : Line → Kind
line_kind bad = kind.Bad
line_kind quiet = kind.Other
line_kind (says s) = kind.Says (status_as s)
line_kind (gives xs) = kind.Other

-- a mode at the place i: a status word starts there or before, and a number is not 0
abbrev pub ModeAt : Mode → ℕ → Type 0
ModeAt Start i = Unit
ModeAt LetterC i = Unit
ModeAt Comment i = Unit
ModeAt LetterS i = Unit
ModeAt (Said from) i = from ≤ i
ModeAt LetterV i = Unit
ModeAt Gap i = Unit
ModeAt Minus i = Unit
ModeAt (Number n v) i = 1 ≤ v
ModeAt Zero i = Unit
ModeAt Bad i = Unit

-- the bytes from a place up to another
abbrev pub bytes_from : ℕ → ℕ → List ℕ → List ℕ
bytes_from from i text = take (i - from) (drop from text)

-- what a line comes to that ends at the place i, by its mode
abbrev pub mode_kind : List ℕ → Mode → ℕ → Kind
mode_kind text Start i = kind.Other
mode_kind text LetterC i = kind.Other
mode_kind text Comment i = kind.Other
mode_kind text LetterS i = kind.Bad
mode_kind text (Said from) i = line_kind (status_word (bytes_from from i text))
mode_kind text LetterV i = kind.Bad
mode_kind text Gap i = kind.Bad
mode_kind text Minus i = kind.Bad
mode_kind text (Number n v) i = kind.Other
mode_kind text Zero i = kind.Other
mode_kind text Bad i = kind.Bad
