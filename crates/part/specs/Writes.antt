-- Document 01, "House part P1" and rows 2, 5 and 9 of "Replies by number": what the writer of a part's job answers, and what the lent buffer then holds.
-- Assumes nothing: these are definitions.
use Rattle.std.specs.Prelude.{◌≡◌, List, Result, Ok, Err, ℕ, ◌*◌, ◌/◌, length}
use Rattle.refusals.specs.Table.{Rows, row, ◌or◌, nowhere, FirstBroken, Passes, room_row}
use Rattle.refusals.specs.declared.Refusal.{Refusal}
use Rattle.refusals.specs.Refusal.{RefusedBy}
use Rattle.text.specs.Text.{Wrote}
use Rattle.channel.specs.Limits.{Limits}
use Rattle.channel.specs.Channel.{Connection}
use Rattle.jobfile.specs.File.{encode}
use Rattle.jobfile.specs.Rows.{tab, connection_size, connection_read, ConnectionKept}
use Rattle.part.specs.declared.held.Part.{Part as Held}
use Rattle.part.specs.Part.{Part, part_of, tracks_in, job_of_part}

-- the part that code holds
abbrev pub told : Held → Part
told p = part_of p.columns p.plain p.starts.now p.ends.now

-- how many connections bytes tell, three bytes each; and the connections
abbrev pub count_of : List ℕ → ℕ
count_of bytes = length bytes / connection_size

abbrev pub connections_of : List ℕ → List Connection
connections_of bytes = tab (λ i. connection_read bytes (connection_size * i)) (count_of bytes) 0

-- a multiple of 3, and N, T, M and K within their limits
pub record Takes (n t size k : ℕ) : Type 0 where
  pub whole : connection_size * (size / connection_size) ≡ size
  pub limits : Limits n t (size / connection_size) k

-- the file that the bytes give
abbrev pub file_of : Part → List ℕ → ℕ → List ℕ
file_of p bytes k = encode (job_of_part p (connections_of bytes) k)

-- rows 2 and 5 of a part's connections, and 9 of its writer: the lent buffer holds the whole file
abbrev pub part_rows : Part → List ℕ → ℕ → Rows
part_rows p bytes k = row 2 (nowhere (Takes p.columns (tracks_in p.table) (length bytes) k → ⊥)) or row 5 (FirstBroken (ConnectionKept bytes p.columns 0 (count_of bytes)))

abbrev pub writer_rows : Part → List ℕ → ℕ → ℕ → Rows
writer_rows p bytes k lent = part_rows p bytes k or room_row (length (file_of p bytes k)) lent

-- document 01's number and values for each answer of the writer: a file is written from the front and the rest stays; a refusal changes nothing
abbrev pub Writes : Part → List ℕ → ℕ → List ℕ → Result ℕ Refusal → List ℕ → Type 0
Writes p bytes k old (Ok size) new = Passes (writer_rows p bytes k (length old)) × Wrote old 0 (file_of p bytes k) new size
Writes p bytes k old (Err r) new = RefusedBy (writer_rows p bytes k (length old)) r × (new ≡ old)
