-- Where the rows stand in the list of all places: what is before a row, the row, and what is behind it. Assumes nothing.
use mathlib.Core.Path.{◌≡◌, refl, sym, ap, ◌∙◌}
use mathlib.Core.Bool.{Bool, true, false, ◌&&◌, not}
use mathlib.Core.List.{List, [], ◌∷◌, ◌++◌, append_assoc, append-nil}
use mathlib.Core.Logic.{⊎_elim}
use Prim.Native.Nat.{ℕ, zero, suc, ◌+◌, ◌-◌, ◌*◌, ◌^◌, ◌≤◌, ◌<◌, min}
use native.Mathlib.Omega.{arith}
use native.Mathlib.Decide.{dec_lt}
use native.Mathlib.Nat.{eq-or-lt_of_le}
use native.Mathlib.Numerals.{add-one}
use lib.Dec.{leb}
use lib.ListN.{length, length-append}
use borrow.Author.Tests.{lt-ltb, le-ltb, le-leb, lt-leb}
use Rattle.facts.specs.Odd.{bit_of}
use Rattle.channel.specs.Limits.{most_tracks, most_connections, most_codes}
use Rattle.channel.specs.Label.{code}
use Rattle.channel.specs.Valid.{Each}
use Rattle.clauses.specs.Clauses.{Grid, bits_for, join_to, only, width_of, meets}
use Rattle.clauses.proofs.Joins.{length_join, join_most, only-length, only-true, only_most, join_split, join_cut, join_of, only_of}
use Rattle.places.specs.declared.Place.{Place}
use Rattle.places.specs.declared.Place.TheVariants.{One, Two}
use Rattle.places.specs.declared.Row.{Row}
use Rattle.places.specs.Places.{forbidden, place_at, row_to, row_of, row_places, stage_places, places_of, places_before}
use Rattle.places.proofs.Sizes.{few_codes}
use Rattle.places.specs.Table.{shut, cross, table_grid, due, forbidden_in, table_row, many_clauses}

-- the codes that are forbidden in a row, stage by stage
module _ (t : ℕ) (barred : ℕ → ℕ → Bool) (meets : ℕ → ℕ → ℕ → Bool) (i c : ℕ) where
  pub forbidden_0 : (s : ℕ) → s ≡ 0 → forbidden t barred meets s i c ≡ leb t c
  unfolding forbidden
  forbidden_0 s e = ap (λ k. forbidden t barred meets k i c) e

  pub forbidden_high : (s : ℕ) → (s ≡ 0 → ⊥) → t ≤ c → forbidden t barred meets s i c ≡ false
  unfolding forbidden
  forbidden_high zero z l = absurd (z refl)
  forbidden_high (suc zero) z l = ap (λ v. v && barred i c) (le-ltb c t l)
  forbidden_high (suc (suc h)) z l = ap (λ v. v && meets h i c) (le-ltb c t l)

  pub forbidden_1 : (s : ℕ) → s ≡ 1 → c < t → forbidden t barred meets s i c ≡ barred i c
  unfolding forbidden
  forbidden_1 s e l = ap (λ k. forbidden t barred meets k i c) e ∙ ap (λ v. v && barred i c) (lt-ltb c t l)

  pub forbidden_2 : (h s : ℕ) → s ≡ suc (suc h) → c < t → forbidden t barred meets s i c ≡ meets h i c
  unfolding forbidden
  forbidden_2 h s e l = ap (λ k. forbidden t barred meets k i c) e ∙ ap (λ v. v && meets h i c) (lt-ltb c t l)

-- the place of a code in a row
module _ (i c : ℕ) where
  pub place-one : (s : ℕ) → s < 2 → One i (code c) ≡ place_at s i c
  unfolding place_at
  place-one zero l = refl
  place-one (suc zero) l = refl
  place-one (suc (suc h)) l = absurd (omega arith)

  pub place-two : (h s : ℕ) → s ≡ suc (suc h) → Two h i (code c) ≡ place_at s i c
  unfolding place_at
  place-two h s e = ap (λ k. place_at k i c) (sym e)

-- how far a row goes: from some code on none is forbidden, as behind stage 0 from t on; none at all where the connection is not behind the stage's
module _ (runs : List ℕ) (t : ℕ) (row : Row) where
  row_cut : (r n : ℕ) → r ≤ n → ((c : ℕ) → r ≤ c → forbidden_in runs t row c ≡ false) → table_row runs t row r ≡ table_row runs t row n
  unfolding row_to only
  row_cut r n l h =
      let x = place_at row.stage row.i in let e : r + (n - r) ≡ n = omega arith in
      sym (join_cut r (n - r) (λ c. only (forbidden_in runs t row c) (x c)) (λ k. ap (λ v. only v (x (r + k))) (h (r + k) (omega arith)))) ∙ ap (table_row runs t row) e

  pub row_reach : (r n : ℕ) → (row.stage ≡ 0 → ⊥) → r ≡ min t n → table_row runs t row r ≡ table_row runs t row n
  row_reach r n z e = go (dec_lt n t)
    where
      go : Dec (n < t) → table_row runs t row r ≡ table_row runs t row n
      go (yes l) = let q : r ≡ n = omega arith in ap (table_row runs t row) q
      go (no l) = row_cut r n (omega arith) (λ c k. forbidden_high t (shut runs) (due runs) row.i c row.stage z (omega arith))

  not_behind : (h c : ℕ) → row.i ≤ h → due runs h row.i c ≡ false
  unfolding due
  not_behind h c l = ap (λ v. v && (cross runs h row.i c && (not (shut runs h c) && not (shut runs row.i c)))) (le-ltb h row.i l)

  pub row_empty : (n : ℕ) → row.i + 2 ≤ row.stage → table_row runs t row 0 ≡ table_row runs t row n
  row_empty n l = row_cut 0 n (omega arith) (λ c k. go c (dec_lt c t))
    where
      go : (c : ℕ) → Dec (c < t) → forbidden_in runs t row c ≡ false
      go c (yes u) = let h = row.stage - 2 in forbidden_2 t (shut runs) (due runs) row.i c h row.stage (omega arith) u ∙ not_behind h c (omega arith)
      go c (no u) = forbidden_high t (shut runs) (due runs) row.i c row.stage (λ e. omega arith) (omega arith)

module _ (g : Grid) where
  abbrev m : ℕ
  m = g.connections

  abbrev in_stage : ℕ → ℕ → List Place
  in_stage s i = row_places g (row_of s i)

  -- nothing is before the first row
  pub before-first : places_before g (row_of 0 0) ≡ []
  unfolding places_before join_to
  before-first = refl

  -- the next connection's row, and the first row of the next stage
  pub before_next : (s i : ℕ) → places_before g (row_of s (i + 1)) ≡ places_before g (row_of s i) ++ in_stage s i
  unfolding places_before join_to
  before_next s i = ap (λ k. join_to s (stage_places g) ++ join_to k (in_stage s)) (add-one i) ∙ sym (append_assoc (join_to s (stage_places g)) (join_to i (in_stage s)) (in_stage s i))

  pub before_wrap : (s : ℕ) → places_before g (row_of (s + 1) 0) ≡ places_before g (row_of s m)
  unfolding places_before join_to stage_places
  before_wrap s = append-nil (join_to (s + 1) (stage_places g)) ∙ ap (λ k. join_to k (stage_places g)) (add-one s)

  -- all rows are before the end
  pub before_end : (s : ℕ) → s ≡ m + 2 → places_before g (row_of s 0) ≡ places_of g
  unfolding places_before places_of join_to
  before_end s e = let f : s ≡ suc (suc m) = omega arith in append-nil (join_to s (stage_places g)) ∙ ap (λ k. join_to k (stage_places g)) f

  -- a row with what is before it and behind it
  module _ (row : Row) (on-stage : row.stage < m + 2) (in-stage : row.i < m) where
    pub row-split : (rest : List Place) × (places_of g ≡ places_before g row ++ (row_places g row ++ rest))
    unfolding places_of places_before stage_places
    row-split =
        let a = join_split (stage_places g) (suc (suc m)) row.stage (omega arith) in
        let b = join_split (in_stage row.stage) m row.i in-stage in
        (b.0 ++ a.0, a.1 ∙ ap (λ x. join_to row.stage (stage_places g) ++ (x ++ a.0)) b.1 ∙ simp append_assoc)

    pub row_room_lem : length (places_before g row) + length (row_places g row) ≤ length (places_of g)
    row_room_lem =
        let e = ap length row-split.1 in
        let a = length-append (places_before g row) (row_places g row ++ row-split.0) in
        let b = length-append (row_places g row) row-split.0 in
        omega arith

  -- what holds of every place that a row can have
  pub all_places : (P : Place → Type 0) → ((s i c : ℕ) → s < m + 2 → i < m → c < 2 ^ width_of g → P (place_at s i c)) → Each P (places_of g)
  unfolding places_of stage_places row_places row_to
  all_places P h = join_of P (suc (suc m)) (stage_places g) (λ s l. join_of P m (in_stage s) (λ i k. join_of P (2 ^ width_of g) _ (λ c e. only_of P _ _ (λ q. h s i c (omega arith) k e))))

  -- there are not too many
  row_most : (s i : ℕ) → length (in_stage s i) ≤ 2 ^ width_of g
  unfolding row_places row_to
  row_most s i = let z = join_most (λ c. only (forbidden g.tracks g.barred (meets g) s i c) (place_at s i c)) 1 (2 ^ width_of g) (λ c. only_most _ _) in omega arith

  pub places_few : 2 ^ width_of g ≤ most_codes → m ≤ most_connections → length (places_of g) ≤ many_clauses
  unfolding places_of stage_places
  places_few a d =
      let y = join_most (stage_places g) (most_connections * most_codes) (suc (suc m)) (λ s. let x = join_most (in_stage s) most_codes m (λ i. let z = row_most s i in omega arith) in omega arith) in
      omega arith

-- nor before a row and in it
pub before_few : (runs : List ℕ) (t m : ℕ) (row : Row) → t ≤ most_tracks → m ≤ most_connections → row.stage < m + 2 → row.i < m → length (places_before (table_grid runs t m) row) + length (row_places (table_grid runs t m) row) ≤ many_clauses
before_few runs t m row a b u v =
    let few = places_few (table_grid runs t m) (few_codes t (omega arith)) b in
    omega (arith, few, row_room_lem (table_grid runs t m) row u v)

-- the rows of the table's grid, and how many places they have
module _ (runs : List ℕ) (t : ℕ) (row : Row) where
  pub row_is : (m : ℕ) → row_places (table_grid runs t m) row ≡ table_row runs t row (2 ^ bits_for t)
  unfolding row_places due
  row_is m = refl

  pub row_count : (m top k : ℕ) → top ≡ 2 ^ bits_for t → k ≡ length (table_row runs t row top) → k ≡ length (row_places (table_grid runs t m) row)
  row_count m top k e h = h ∙ ap (λ n. length (table_row runs t row n)) e ∙ ap length (sym (row_is m))

  pub count_none : length (table_row runs t row 0) ≡ 0
  unfolding row_to join_to
  count_none = refl

  pub count_next : (c : ℕ) (b : Bool) → forbidden_in runs t row c ≡ b → length (table_row runs t row (c + 1)) ≡ length (table_row runs t row c) + bit_of b
  unfolding row_to
  count_next c b e =
      ap (λ n. length (table_row runs t row n)) (add-one c)
      ∙ length_join (λ x. only (forbidden_in runs t row x) (place_at row.stage row.i x)) c
      ∙ ap (λ v. length (table_row runs t row c) + length (only v (place_at row.stage row.i c))) e
      ∙ ap (λ n. length (table_row runs t row c) + n) (only-length b (place_at row.stage row.i c))

  -- stage 0 has the codes from t on
  pub count-beyond : row.stage ≡ 0 → (n : ℕ) → length (table_row runs t row n) ≡ n - t
  count-beyond e zero = count_none ∙ omega arith
  count-beyond e (suc n) = ap (λ k. length (table_row runs t row k)) (sym (add-one n)) ∙ go (count-beyond e n) (dec_lt n t)
    where
      next : (b : Bool) → leb t n ≡ b → length (table_row runs t row (n + 1)) ≡ length (table_row runs t row n) + bit_of b
      next b h = count_next n b (forbidden_0 t (shut runs) (due runs) row.i n row.stage e ∙ h)

      go : length (table_row runs t row n) ≡ n - t → Dec (n < t) → length (table_row runs t row (n + 1)) ≡ suc n - t
      go h (yes l) = omega (arith, next false (lt-leb t n l))
      go h (no l) = omega (arith, next true (le-leb t n (omega arith)))

  -- what lies behind a whole row is not in it
  pub row_inside : (c k n : ℕ) → c ≤ 2 ^ bits_for t → length (table_row runs t row c) + k ≡ n → n < length (table_row runs t row (2 ^ bits_for t)) → c < 2 ^ bits_for t
  row_inside c k n l e h = ⊎_elim (λ (q : c ≡ 2 ^ bits_for t). let z = ap (λ x. length (table_row runs t row x)) q in absurd (omega arith)) (λ (q : c < 2 ^ bits_for t). q) (eq-or-lt_of_le l)

  -- the place of a code that is forbidden in a row: behind those of the rows before it, and of the codes below it
  pub place-split : (m : ℕ) → row.stage < m + 2 → row.i < m → (c : ℕ) → c < 2 ^ bits_for t → forbidden_in runs t row c ≡ true → (rest : List Place) × (places_of (table_grid runs t m) ≡ (places_before (table_grid runs t m) row ++ table_row runs t row c) ++ (place_at row.stage row.i c ∷ rest))
  unfolding row_to
  place-split m u v c l e =
      let g = table_grid runs t m in let x = place_at row.stage row.i c in
      let a = row-split g row u v in
      let b = join_split (λ y. only (forbidden_in runs t row y) (place_at row.stage row.i y)) (2 ^ bits_for t) c l in
      (b.0 ++ a.0, a.1 ∙ (λ z. places_before g row ++ ((row_is m ∙ b.1 ∙ ap (λ y. table_row runs t row c ++ (y ++ b.0)) (only-true (forbidden_in runs t row c) x e)) z ++ a.0)) ∙ simp append_assoc)
