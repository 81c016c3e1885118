-- Stepping stones: document 01, "Clause lines": where the clauses of a list stand, as places instead of literals, row after row; and the place with a number.
-- `map_places` (proofs/Places.antt) says that the clauses at these places are the clause list. Assumes nothing: these are definitions.
use Rattle.std.specs.Prelude.{◌≡◌, Bool, ◌&&◌, List, ◌++◌, Result, Ok, Err, ℕ, zero, suc, ◌+◌, ◌^◌, ◌≤◌, ◌<◌, leb, ltb, length, get_or}
use Rattle.dimacs.specs.Clause.{Clause}
use Rattle.channel.specs.Limits.{most_connections, most_bits, most_codes}
use Rattle.channel.specs.Label.{code}
use Rattle.clauses.specs.Clauses.{Grid, join_to, only, bar, width_of, meets, bits_for}
use Rattle.places.specs.declared.Place.{Place}
use Rattle.places.specs.declared.Place.TheVariants.{One, Two}
use Rattle.places.specs.declared.Row.{Row}

-- the clause at a place: one connection and a code, or two connections and a code
unfoldable pub clause_at : ℕ → Place → Clause
clause_at w (One i c) = bar w i c.0
clause_at w (Two h i c) = bar w h c.0 ++ bar w i c.0

-- a row is a stage and a connection i, counted from 0: stage 0 for group 1, stage 1 for group 2, and stage h + 2 for connection h in group 3, with each i
-- behind it. A code is forbidden in a row that has a clause for it: no track has the code; its track is barred for i; h and i meet there
unfoldable pub forbidden : ℕ → (ℕ → ℕ → Bool) → (ℕ → ℕ → ℕ → Bool) → ℕ → ℕ → ℕ → Bool
forbidden t barred meets zero i c = leb t c
forbidden t barred meets (suc zero) i c = ltb c t && barred i c
forbidden t barred meets (suc (suc h)) i c = ltb c t && meets h i c

-- the place of a code in a row
unfoldable pub place_at : ℕ → ℕ → ℕ → Place
place_at zero i c = One i (code c)
place_at (suc zero) i c = One i (code c)
place_at (suc (suc h)) i c = Two h i (code c)

-- the places of a row with a code below n, in the order of the codes
unfoldable pub row_to : ℕ → (ℕ → ℕ → Bool) → (ℕ → ℕ → ℕ → Bool) → Row → ℕ → List Place
row_to t barred meets row n = join_to n (λ c. only (forbidden t barred meets row.stage row.i c) (place_at row.stage row.i c))

-- the row of a stage and a connection
abbrev pub row_of : ℕ → ℕ → Row
row_of s i = record { stage = s; i = i }

module _ (g : Grid) where
  -- a whole row: the codes of w bits; and a whole stage
  unfoldable pub row_places : Row → List Place
  row_places row = row_to g.tracks g.barred (meets g) row (2 ^ width_of g)

  unfoldable pub stage_places : ℕ → List Place
  stage_places s = join_to g.connections (λ i. row_places (row_of s i))

  -- the places of a grid's clauses: groups 1 and 2, and a stage for each connection in group 3
  unfoldable pub places_of : List Place
  places_of = join_to (suc (suc g.connections)) stage_places

  -- those of the rows before a row
  unfoldable pub places_before : Row → List Place
  places_before row = join_to row.stage stage_places ++ join_to row.i (λ i. row_places (row_of row.stage i))

-- x is entry n of the list, counted from 0
pub record Hit (l : List Place) (n : ℕ) (x : Place) : Type 0 where
  pub inside : n < length l
  pub is : get_or l n x ≡ x

-- the place that is found is entry n of the list; or n lies k behind the list's end
abbrev pub FoundAt : List Place → ℕ → Result Place ℕ → Type 0
FoundAt l n (Ok x) = Hit l n x
FoundAt l n (Err k) = length l + k ≡ n

-- w and 2 ^ w for t tracks
pub record Sized (t w top : ℕ) : Type 0 where
  pub bits : w ≡ bits_for t
  pub power : top ≡ 2 ^ bits_for t
  pub few : w ≤ most_bits
  pub most : top ≤ most_codes
  pub room : t ≤ top

-- a place's connections and code are within the limits
abbrev pub Within : Place → Type 0
Within (One i c) = (i < most_connections) × (c.0 < most_codes)
Within (Two h i c) = (h < most_connections) × (i < most_connections) × (c.0 < most_codes)
