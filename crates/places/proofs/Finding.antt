-- The place with a number: the row in which it lies, and its code there; and that no number is too high to be told. Assumes nothing.
use mathlib.Core.Path.{◌≡◌, ap, ◌∙◌}
use mathlib.Core.Bool.{true}
use mathlib.Core.List.{List, ◌∷◌, ◌++◌}
use Prim.Native.Nat.{ℕ, ◌+◌, ◌^◌, ◌≤◌, ◌<◌}
use native.Mathlib.Omega.{arith}
use lib.ListN.{length, get_or, length-append}
use lib.Seq.{get_or_at}
use Rattle.channel.specs.Limits.{most_tracks, most_connections}
use Rattle.clauses.specs.Clauses.{bits_for}
use Rattle.places.specs.declared.Row.{Row}
use Rattle.places.specs.declared.Spot.{Spot}
use Rattle.places.specs.Places.{place_at, places_of, places_before, Hit}
use Rattle.places.specs.Table.{table_grid, forbidden_in, table_row, many_clauses}
use Rattle.places.specs.Rows.{InRow, NthIn}
use Rattle.places.proofs.Sizes.{few_codes}
use Rattle.places.proofs.Rows.{row_room_lem, places_few, place-split}

-- the place of a code that is forbidden in a row, by its number
pub hit_here : (runs : List ℕ) (t m : ℕ) (row : Row) → row.stage < m + 2 → row.i < m → (c : ℕ) → c < 2 ^ bits_for t → forbidden_in runs t row c ≡ true → (n : ℕ) → length (places_before (table_grid runs t m) row) + length (table_row runs t row c) ≡ n → Hit (places_of (table_grid runs t m)) n (place_at row.stage row.i c)
hit_here runs t m row u v c l e n h =
    let front = places_before (table_grid runs t m) row ++ table_row runs t row c in let x = place_at row.stage row.i c in
    let r = place-split runs t row m u v c l e in
    let long = length-append (places_before (table_grid runs t m) row) (table_row runs t row c) in
    let all = ap length r.1 ∙ length-append front (x ∷ r.0) in
    record { inside = omega arith; is = ap (λ y. get_or y n x) r.1 ∙ get_or_at front x r.0 x n (omega arith) }

-- in a row: the place of its code
pub found_in : (runs : List ℕ) (t m n : ℕ) (spot : Spot) → InRow (table_grid runs t m) n spot → (c : ℕ) → NthIn runs t spot.row spot.rest c → Hit (places_of (table_grid runs t m)) n (place_at spot.row.stage spot.row.i c)
found_in runs t m n spot h c g = let a = g.nth in let b = h.passed in hit_here runs t m spot.row h.stage h.inside c g.below g.there n (omega arith)

-- more than there can be lie in no row
pub many_past : (runs : List ℕ) (t m : ℕ) (spot : Spot) → t ≤ most_tracks → m ≤ most_connections → InRow (table_grid runs t m) many_clauses spot → ⊥
many_past runs t m spot a b h =
    let f = places_few (table_grid runs t m) (few_codes t (omega arith)) b in
    let r = row_room_lem (table_grid runs t m) spot.row h.stage h.inside in
    let p = h.passed in let k = h.short in
    omega arith
