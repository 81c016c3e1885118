-- Document 01, "Replies by number": what is answered for the lines of a brought routing, and what the lent buffer is afterwards. Assumes nothing: these are definitions.
use Rattle.std.specs.Prelude.{◌≡◌, List, Result, Ok, Err, ℕ, ◌*◌, ◌≤◌, length}
use Rattle.refusals.specs.declared.Refusal.{Refusal}
use Rattle.refusals.specs.Table.{Rows, ◌or◌, room_row}
use Rattle.refusals.specs.Refusal.{RefusedBy}
use Rattle.text.specs.Text.{Wrote}
use Rattle.channel.specs.Channel.{Job, M}
use Rattle.channel.specs.Routing.{Routing}
use Rattle.jobfile.specs.Rows.{m_of}
use Rattle.jobfile.specs.Reads.{FileOf}
use Rattle.judge.specs.Judges.{judge_rows}
use Rattle.rows.specs.Rows.{row_room, rows_text}

-- the rows that fit the call: those of the judge, and 9, room for a line of each of the M connections
abbrev pub lines_rows : List ℕ → List ℕ → ℕ → Rows
lines_rows f q lent = judge_rows f q or room_row (m_of f * row_room) lent

-- the labels are a routing of the file's job, whose lines are written from the front, n bytes long, and the rest stays
pub record WrittenRows (f q old new : List ℕ) (n : ℕ) : Type 0 where
  pub job : Job
  pub of_file : FileOf f job
  pub routing : Routing job q
  pub room : M job * row_room ≤ length old
  pub wrote : Wrote old 0 (rows_text job q (M job)) new n

-- document 01's number and values for each answer; a refusal changes no byte
abbrev pub Lines : List ℕ → List ℕ → List ℕ → Result ℕ Refusal → List ℕ → Type 0
Lines f q old (Ok n) new = WrittenRows f q old new n
Lines f q old (Err r) new = RefusedBy (lines_rows f q (length old)) r × (new ≡ old)
