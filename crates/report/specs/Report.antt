-- Document 01, "Numbers to hold against it": what the routing program prints for an input, and the status that it ends with. Assumes nothing: these are definitions.
use Rattle.std.specs.Prelude.{List, [], ◌∷◌, ◌++◌, ℕ, ◌≤◌, ◌<◌, length}
use Rattle.search.specs.Budget.{Outcome, first, none, undecided}
use Rattle.refusals.specs.Table.{Refuses}
use Rattle.text.specs.Text.{Wrote, digits}
use Rattle.channel.specs.Channel.{Job, M}
use Rattle.channel.specs.Verdict.{Decides}
use Rattle.jobfile.specs.Rows.{file_rows}
use Rattle.jobfile.specs.Reads.{FileOf}
use Rattle.route.specs.declared.Verdict.{Verdict}
use Rattle.route.specs.declared.Verdict.TheVariants.{Routed, Unroutable, Undecided}
use Rattle.report.specs.declared.Status.{Status}
use Rattle.report.specs.declared.Status.TheVariants as status
use Rattle.rows.specs.Rows.{small, blank, lf, rows_text}

-- the program's budget, and the longest input it reads
abbrev pub program_budget : ℕ
program_budget = 1000000

abbrev pub most_input : ℕ
most_input = 4096

-- a number
abbrev pub number : ℕ → List ℕ
number n = digits 19 n

-- `routed `, `unroutable `, `undecided `, `refused `
abbrev pub routed_word : List ℕ
routed_word = 114 ∷ 111 ∷ 117 ∷ 116 ∷ 101 ∷ 100 ∷ 32 ∷ []

abbrev pub unroutable_word : List ℕ
unroutable_word = 117 ∷ 110 ∷ 114 ∷ 111 ∷ 117 ∷ 116 ∷ 97 ∷ 98 ∷ 108 ∷ 101 ∷ 32 ∷ []

abbrev pub undecided_word : List ℕ
undecided_word = 117 ∷ 110 ∷ 100 ∷ 101 ∷ 99 ∷ 105 ∷ 100 ∷ 101 ∷ 100 ∷ 32 ∷ []

abbrev pub refused_word : List ℕ
refused_word = 114 ∷ 101 ∷ 102 ∷ 117 ∷ 115 ∷ 101 ∷ 100 ∷ 32 ∷ []

-- a verdict and its trials
unfoldable pub verdict_text : List ℕ → ℕ → List ℕ
verdict_text word n = word ++ number n ++ lf

-- a refusal: number, place
unfoldable pub refused_text : ℕ → ℕ → List ℕ
refused_text num place = refused_word ++ small num ++ blank ++ number place ++ lf

-- the lines of a verdict on a job: the verdict and its trials, and if routed a line for each connection
abbrev pub verdict_lines : Job → Outcome → List ℕ
verdict_lines j (first q n) = verdict_text routed_word n ++ rows_text j q (M j)
verdict_lines j (none n) = verdict_text unroutable_word n
verdict_lines j (undecided n) = verdict_text undecided_word n

-- the status that a refusal ends with
abbrev pub refused_status : ℕ
refused_status = 3

-- the status that an outcome ends with: 0 routed, 1 unroutable, 2 undecided
abbrev pub status_of : Outcome → ℕ
status_of (first q n) = 0
status_of (none n) = 1
status_of (undecided n) = 2

-- the number of a status
abbrev pub status_number : Status → ℕ
status_number status.Routed = 0
status_number status.Unroutable = 1
status_number status.Undecided = 2
status_number status.Refused = 3

-- the first line of a verdict, and its status
abbrev pub line_of : Verdict → List ℕ
line_of (Routed n) = verdict_text routed_word n
line_of (Unroutable n) = verdict_text unroutable_word n
line_of (Undecided n) = verdict_text undecided_word n

abbrev pub status_told : Verdict → Status
status_told (Routed n) = status.Routed
status_told (Unroutable n) = status.Unroutable
status_told (Undecided n) = status.Undecided

-- what is printed for the input f, and the status. Over the longest it is refused as 3, place 0; else as the file's rows say; else it is the verdict on its job under the program's budget
pub data Prints (f : List ℕ) : List ℕ → ℕ → Type 0 where
  too_long : most_input < length f → Prints f (refused_text 3 0) refused_status
  refused : (num place : ℕ) → length f ≤ most_input → Refuses (file_rows f) num place → Prints f (refused_text num place) refused_status
  decided : (j : Job) (o : Outcome) → length f ≤ most_input → FileOf f j → Decides j program_budget o → Prints f (verdict_lines j o) (status_of o)

-- the text stands at the front of the lent buffer, r bytes of it, and the rest of the buffer stays; the status is s
pub record Printed (f old new : List ℕ) (r s : ℕ) : Type 0 where
  pub text : List ℕ
  pub prints : Prints f text s
  pub wrote : Wrote old 0 text new r
  pub fits : r ≤ length new
