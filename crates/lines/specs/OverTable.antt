-- Stepping stones: what a call for a line answers over the table of runs. `answered` (proofs/Answers.antt) carries it to the file. Assumes nothing: these are definitions.
use Rattle.std.specs.Prelude.{◌≡◌, List, Result, Ok, Err, ℕ, ◌≤◌, ◌<◌, length}
use Rattle.refusals.specs.declared.Refusal.{Refusal}
use Rattle.refusals.specs.Refusal.{number_of}
use Rattle.text.specs.Text.{Wrote}
use Rattle.clauses.specs.Clauses.{Grid, clauses_of}
use Rattle.lines.specs.Lined.{text_of}

-- the line is written from the front; or its number is above C, row 10, and nothing is written
abbrev pub Lined : Grid → ℕ → List ℕ → Result ℕ Refusal → List ℕ → Type 0
Lined g n old (Ok k) new = (n ≤ length (clauses_of g)) × Wrote old 0 (text_of g n) new k
Lined g n old (Err r) new = ((number_of r.reason ≡ 10) × (r.place ≡ 0)) × ((length (clauses_of g) < n) × (new ≡ old))
