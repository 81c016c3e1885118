-- Stepping stones: the `s` lines and the literals of a reply, counted as the code of `tally` does. `settle-brief` (proofs/Counts.antt) says that the counts
-- decide as the lists do, and `end_right` (proofs/Reader.antt) that the answer at the end is that of row 6. Assumes nothing: these are definitions.
use Rattle.std.specs.Prelude.{List, ℕ, suc, zero, ◌+◌, Option, Some, None, Result, Ok, Err}
use Rattle.scan.specs.declared.line.Mode.{Mode}
use Rattle.scan.specs.declared.line.Lit.{Lit}
use Rattle.scan.specs.declared.line.Lit.TheVariants.{Stop, Var}
use Rattle.scan.specs.declared.line.Status.TheVariants.{Satisfiable, Unsatisfiable, Unknown}
use Rattle.scan.specs.declared.line.Kind.{Kind}
use Rattle.scan.specs.declared.line.Kind.TheVariants as kind
use Rattle.scan.specs.declared.tally.Statuses.{Statuses}
use Rattle.scan.specs.declared.tally.Statuses.TheVariants.{Nothing, One, Several}
use Rattle.scan.specs.declared.tally.Shut.{Shut}
use Rattle.scan.specs.declared.tally.Shut.TheVariants.{Open, Closed, Passed}
use Rattle.scan.specs.declared.tally.Tally.{Tally}
use Rattle.scan.specs.declared.Answer.{Answer}
use Rattle.scan.specs.declared.Answer.TheVariants as answer
use Rattle.scan.specs.Line.{mode_literal, mode_kind}

-- the largest number that a place can be
abbrev pub last_number : ℕ
last_number = 18446744073709551615

-- the `s` lines so far, after a line of this kind
abbrev pub said_after : Statuses → Kind → Statuses
said_after said kind.Bad = said
said_after said kind.Other = said
said_after Nothing (kind.Says s) = One s
said_after (One s') (kind.Says s) = Several
said_after Several (kind.Says s) = Several

-- how many literals stand before the first `0`, after one more
abbrev pub count_after : ℕ → Shut → Option Lit → ℕ
count_after count shut None = count
count_after count shut (Some Stop) = count
count_after count Open (Some (Var n v)) = count + 1
count_after count Closed (Some (Var n v)) = count
count_after count Passed (Some (Var n v)) = count

-- no `0` yet, a `0` that is the last, or more after it
abbrev pub shut_after : Shut → Option Lit → Shut
shut_after shut None = shut
shut_after Open (Some Stop) = Closed
shut_after Closed (Some Stop) = Passed
shut_after Passed (Some Stop) = Passed
shut_after Open (Some (Var n v)) = Open
shut_after Closed (Some (Var n v)) = Passed
shut_after Passed (Some (Var n v)) = Passed

-- one literal more
abbrev pub tally_after : Tally → Option Lit → Tally
tally_after t l = record { count = count_after t.count t.shut l; shut = shut_after t.shut l }

-- an answer, if there are no literals and no `0`
abbrev pub none_as : Answer → ℕ → Shut → Result Answer ℕ
none_as a zero Open = Ok a
none_as a (suc n) Open = Err 0
none_as a count Closed = Err 0
none_as a count Passed = Err 0

-- the answer of a status that goes without literals
abbrev pub alone_as : Answer → Tally → Result Answer ℕ
alone_as a t = none_as a t.count t.shut

-- so many literals, if a `0` is the last
abbrev pub closed_as : ℕ → Shut → Result Answer ℕ
closed_as count Open = Err 0
closed_as count Closed = Ok (answer.Sat count)
closed_as count Passed = Err 0

-- the answer, by the `s` lines and the literals
abbrev pub by_said : Statuses → Tally → Result Answer ℕ
by_said Nothing t = Err 0
by_said (One Satisfiable) t = closed_as t.count t.shut
by_said (One Unsatisfiable) t = alone_as answer.Claimed t
by_said (One Unknown) t = alone_as answer.Unknown t
by_said Several t = Err 0

-- a line not well-formed, by its number, decides before the others
abbrev pub answer_by : Kind → ℕ → Statuses → Tally → Result Answer ℕ
answer_by kind.Bad number said t = Err number
answer_by (kind.Says s) number said t = by_said said t
answer_by kind.Other number said t = by_said said t

-- the text ends at the place i, and with it its last line
abbrev pub told_at_end : List ℕ → Mode → ℕ → ℕ → Statuses → Tally → Result Answer ℕ
told_at_end text m i number said t = answer_by (mode_kind text m i) number (said_after said (mode_kind text m i)) (tally_after t (mode_literal m))
