-- Document 01, "Clause lines" and "Replies by number": what a call for a line answers, and what the lent buffer is afterwards. Assumes nothing: these are definitions.
use Rattle.std.specs.Prelude.{◌≡◌, List, Result, Ok, Err, ℕ, ◌≤◌, ◌<◌, length}
use Rattle.refusals.specs.declared.Refusal.{Refusal}
use Rattle.refusals.specs.Refusal.{RefusedBy}
use Rattle.refusals.specs.Table.{Rows, row, ◌or◌, nowhere, room_row}
use Rattle.text.specs.Text.{Wrote}
use Rattle.channel.specs.Channel.{Job}
use Rattle.jobfile.specs.Rows.{file_rows, job_of}
use Rattle.jobfile.specs.Reads.{FileOf}
use Rattle.clauses.specs.Clauses.{clause_count}
use Rattle.lines.specs.Lined.{most_line, line_text}

-- the rows that fit the call: 1 to 5 of the file, 9 for a buffer under 62 bytes, 10 for a number above C
abbrev pub line_rows : List ℕ → ℕ → ℕ → Rows
line_rows f lent number = file_rows f or room_row most_line lent or row 10 (nowhere (clause_count (job_of f) < number))

-- line `number` of the file's job is written from the front, k bytes long, and the rest stays
pub record WrittenLine (f : List ℕ) (number : ℕ) (old new : List ℕ) (k : ℕ) : Type 0 where
  pub job : Job
  pub of_file : FileOf f job
  pub room : most_line ≤ length old
  pub counted : number ≤ clause_count job
  pub wrote : Wrote old 0 (line_text job number) new k

-- document 01's number and values for each answer; a refusal changes no byte
abbrev pub WritesLine : List ℕ → ℕ → List ℕ → Result ℕ Refusal → List ℕ → Type 0
WritesLine f number old (Ok k) new = WrittenLine f number old new k
WritesLine f number old (Err r) new = RefusedBy (line_rows f (length old) number) r × (new ≡ old)
