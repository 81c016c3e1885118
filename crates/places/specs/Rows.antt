-- Stepping stones: the rows, as who goes over all clauses goes over them. `place-split` (proofs/Rows.antt) says where a row's place stands
-- among all. Assumes nothing: these are definitions.
use Rattle.std.specs.Prelude.{◌≡◌, true, List, Result, Ok, Err, ℕ, ◌+◌, ◌-◌, ◌^◌, ◌≤◌, ◌<◌, length}
use Rattle.channel.specs.Limits.{most_connections}
use Rattle.clauses.specs.Clauses.{Grid, bits_for}
use Rattle.places.specs.declared.Row.{Row}
use Rattle.places.specs.declared.Spot.{Spot}
use Rattle.places.specs.Places.{row_places, places_of, places_before}
use Rattle.places.specs.Table.{forbidden_in, table_row}

-- a row within the limits
pub record Limited (row : Row) : Type 0 where
  pub stage : row.stage < most_connections + 2
  pub inside : row.i < most_connections

-- the codes of a row below n are those of the tracks below r, or in stage 0 those from r on
pub record Reach (t : ℕ) (row : Row) (n r : ℕ) : Type 0 where
  pub few : r ≤ n
  pub tracks : r ≤ t
  pub beyond : row.stage ≡ 0 → r + (n - t) ≡ n
  pub same : (row.stage ≡ 0 → ⊥) → (runs : List ℕ) → table_row runs t row r ≡ table_row runs t row n

-- the number n lies in a row, behind so many of its places
pub record InRow (g : Grid) (n : ℕ) (spot : Spot) : Type 0 where
  pub stage : spot.row.stage < g.connections + 2
  pub inside : spot.row.i < g.connections
  pub passed : length (places_before g spot.row) + spot.rest ≡ n
  pub short : spot.rest < length (row_places g spot.row)

-- the number n lies in a row, or k behind the last place
abbrev pub LiesIn : Grid → ℕ → Result Spot ℕ → Type 0
LiesIn g n (Ok spot) = InRow g n spot
LiesIn g n (Err k) = length (places_of g) + k ≡ n

-- c is the code of a row's place n
pub record NthIn (runs : List ℕ) (t : ℕ) (row : Row) (n c : ℕ) : Type 0 where
  pub below : c < 2 ^ bits_for t
  pub there : forbidden_in runs t row c ≡ true
  pub nth : length (table_row runs t row c) ≡ n
