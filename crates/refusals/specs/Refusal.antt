-- A refusal as code holds it: the row's number, and that the row decides. Assumes nothing: these are definitions.
use Rattle.std.specs.Prelude.{ℕ}
use Rattle.refusals.specs.declared.Reason.{Reason}
use Rattle.refusals.specs.declared.Reason.TheVariants as reason
use Rattle.refusals.specs.declared.Refusal.{Refusal}
use Rattle.refusals.specs.Table.{Rows, Refuses}

-- the number of each row
abbrev pub number_of : Reason → ℕ
number_of reason.ShortFile = 1
number_of reason.Sizes = 2
number_of reason.Distances = 3
number_of reason.Track = 4
number_of reason.Connection = 5
number_of reason.Text = 6
number_of reason.Literals = 7
number_of reason.Clause = 8
number_of reason.Room = 9
number_of reason.Absent = 10
number_of reason.Routing = 11

-- of the rows that fit a call, the refusal's is the one that decides
abbrev pub RefusedBy : Rows → Refusal → Type 0
RefusedBy R r = Refuses R (number_of r.reason) r.place
