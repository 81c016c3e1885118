-- Document 01, "The job file": the editor's entry for P1 takes its connections as a list of records, and routes exactly as the file with those connections does.
-- Assumes nothing: these are definitions.
use Rattle.std.specs.Prelude.{◌≡◌, List, map, Result, Err, ℕ, ◌<◌, length, get_or}
use Rattle.refusals.specs.Table.{Rows, row, ◌or◌, nowhere, FirstBroken, Passes}
use Rattle.refusals.specs.declared.Refusal.{Refusal}
use Rattle.refusals.specs.Refusal.{RefusedBy}
use Rattle.channel.specs.Limits.{Limits}
use Rattle.channel.specs.Channel.{Connection}
use Rattle.channel.specs.Valid.{ConnectionRule}
use Rattle.jobfile.specs.declared.Connection.{Connection as Record}
use Rattle.jobfile.specs.File.{connection_bytes, joined, encode}
use Rattle.route.specs.declared.Verdict.{Verdict}
use Rattle.route.specs.Routes.{Routes}
use Rattle.part.specs.Part.{tracks_in, job_of_part}
use Rattle.part.specs.P1.{p1}
use Rattle.part.specs.Writes.{file_of, part_rows}

-- the connection that a record tells; those of a list of records; their bytes
abbrev pub connection_of : Record → Connection
connection_of c = record { left = c.left; right = c.right; mark = c.mark }

abbrev pub told_by : List Record → List Connection
told_by cs = map connection_of cs

abbrev pub bytes_of : List Record → List ℕ
bytes_of cs = joined connection_bytes (told_by cs)

-- a record where there is none
abbrev pub none : Record
none = record { left = 0; right = 0; mark = 0 }

-- rows 2 and 5 of a list of records: M or K outside its limits; the first connection that breaks its rule
abbrev pub editor_rows : List Record → ℕ → Rows
editor_rows cs k =
    row 2 (nowhere (Limits p1.columns (tracks_in p1.table) (length cs) k → ⊥))
    or row 5 (FirstBroken (λ i. i < length cs → ConnectionRule p1.columns (connection_of (get_or cs i none))))

-- the file with those connections
abbrev pub editor_file : List Record → ℕ → List ℕ
editor_file cs k = encode (job_of_part p1 (told_by cs) k)

-- some rows decide before there is a file, and then no lent byte changes; where none of them holds it is the router's answer to the file
pub data AsFile (R : Rows) (file : List ℕ) (b : ℕ) (old : List ℕ) (v : Result Verdict Refusal) (new : List ℕ) : Type 0 where
  refuses : (r : Refusal) → RefusedBy R r → v ≡ Err r → new ≡ old → AsFile R file b old v new
  routes : Passes R → Routes file b old v new → AsFile R file b old v new

-- the answer of the editor's entry
abbrev pub Edits : List Record → ℕ → ℕ → List ℕ → Result Verdict Refusal → List ℕ → Type 0
Edits cs k b old v new = AsFile (editor_rows cs k) (editor_file cs k) b old v new

-- the same of bytes, three for each connection: rows 2 and 5 of P1's writer, 2 also for a length that is no multiple of 3, and the file that the bytes give
abbrev pub RoutesList : List ℕ → ℕ → ℕ → List ℕ → Result Verdict Refusal → List ℕ → Type 0
RoutesList bytes k b old v new = AsFile (part_rows p1 bytes k) (file_of p1 bytes k) b old v new
