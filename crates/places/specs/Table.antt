-- Stepping stones: a grid by the table of first and last occupied segments, and its rows. `tabled_clauses` (proofs/Tabled.antt): its clauses are the job's. Assumes nothing: these are definitions.
use Rattle.std.specs.Prelude.{Bool, ◌&&◌, not, List, ℕ, ◌+◌, ◌*◌, ltb, eqb}
use Rattle.channel.specs.Limits.{most_connections, most_codes}
use Rattle.clauses.specs.Clauses.{Grid, meets}
use Rattle.occupancy.specs.Runs.{meet, first_in, last_in, owner_in}
use Rattle.places.specs.declared.Place.{Place}
use Rattle.places.specs.declared.Row.{Row}
use Rattle.places.specs.Places.{forbidden, row_to}

-- the code c is barred for connection i + 1: its last segment lies before its first
abbrev pub shut : List ℕ → ℕ → ℕ → Bool
shut runs i c = ltb (last_in runs i c) (first_in runs i c)

-- the runs of connections h + 1 and i + 1 meet there, and have two owners
abbrev pub cross : List ℕ → ℕ → ℕ → ℕ → Bool
cross runs h i c = meet (first_in runs h c) (last_in runs h c) (first_in runs i c) (last_in runs i c) && not (eqb (owner_in runs h) (owner_in runs i))

-- the grid of t tracks and m connections
abbrev pub table_grid : List ℕ → ℕ → ℕ → Grid
table_grid runs t m = record { tracks = t; connections = m; barred = shut runs; collide = cross runs }

-- a clause is due for connections h + 1 and i + 1: h is before i, they collide there, and the track is barred for neither
unfoldable pub due : List ℕ → ℕ → ℕ → ℕ → Bool
due runs h i c = meets (table_grid runs 0 0) h i c

-- a row of the grid: whether a code is forbidden there, and the places with a code below n
abbrev pub forbidden_in : List ℕ → ℕ → Row → ℕ → Bool
forbidden_in runs t row = forbidden t (shut runs) (due runs) row.stage row.i

abbrev pub table_row : List ℕ → ℕ → Row → ℕ → List Place
table_row runs t = row_to t (shut runs) (due runs)

-- as many clauses as there can be at most, and more: a code for each row
abbrev pub many_clauses : ℕ
many_clauses = (most_connections + 2) * (most_connections * most_codes)
