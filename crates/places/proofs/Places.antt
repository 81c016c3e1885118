-- The clause list by its places: the clauses are those at the places, and every place is within the limits. Assumes nothing.
use mathlib.Core.Path.{◌≡◌, sym, ap, ◌∙◌, subst}
use mathlib.Core.Bool.{Bool, ◌&&◌}
use mathlib.Core.List.{[], ◌∷◌, ◌++◌, map}
use Prim.Native.Nat.{ℕ, zero, suc, ◌+◌, ◌-◌, ◌^◌, ◌≤◌, ◌<◌}
use native.Mathlib.Omega.{arith}
use lib.Dec.{leb, ltb}
use lib.ListN.{length, get_or, length-map}
use Rattle.std.proofs.lemmas.List.{get_or-map}
use borrow.Author.Tests.{lt-ltb, le-ltb, le-leb, lt-leb}
use Rattle.channel.specs.Limits.{most_connections, most_codes}
use Rattle.channel.proofs.Validity.{each_at}
use Rattle.clauses.specs.Clauses.{Grid, join_to, only, bar, width_of, beyond, bars, pairs, meets, clauses_of}
use Rattle.clauses.proofs.Joins.{join_same, join_front, join_sum, join_empty, join_cut, map_join, map-only}
use Rattle.clauses.proofs.Width.{bits_for_is}
use Rattle.places.specs.declared.Place.{Place}
use Rattle.places.specs.Places.{clause_at, forbidden, place_at, row_to, row_of, row_places, stage_places, places_of, Hit, Within}
use Rattle.places.proofs.Rows.{all_places}

-- codes from t on, and codes below t, as parts of the codes below t + n
module _ {A : Type 0} (t n : ℕ) (b : ℕ → Bool) (x : ℕ → A) where
  from_on : join_to (t + n) (λ c. only (leb t c) (x c)) ≡ join_to n (λ k. x (t + k) ∷ [])
  unfolding only
  from_on =
      join_sum t n (λ c. only (leb t c) (x c))
      ∙ (λ z. join_empty t (λ c. only (leb t c) (x c)) (λ c l. ap (λ v. only v (x c)) (lt-leb t c l)) z
      ++ join_to n (λ k. only (le-leb t (t + k) (omega arith) z) (x (t + k))))

  only_below : join_to (t + n) (λ c. only (ltb c t && b c) (x c)) ≡ join_to t (λ c. only (b c) (x c))
  unfolding only
  only_below =
      join_cut t n (λ c. only (ltb c t && b c) (x c)) (λ k. ap (λ v. only (v && b (t + k)) (x (t + k))) (le-ltb (t + k) t (omega arith)))
      ∙ join_same t (λ c. only (ltb c t && b c) (x c)) (λ c. only (b c) (x c)) (λ c l. ap (λ v. only (v && b c) (x c)) (lt-ltb c t l))

module _ (g : Grid) where
  abbrev w : ℕ
  w = width_of g

  abbrev t : ℕ
  t = g.tracks

  abbrev m : ℕ
  m = g.connections

  whole : 2 ^ w ≡ t + (2 ^ w - t)
  whole = let e = (bits_for_is t).enough in omega arith

  -- the clauses of a row, and of a stage
  row-clauses : (s i : ℕ) → map (clause_at w) (row_places g (row_of s i)) ≡ join_to (t + (2 ^ w - t)) (λ c. only (forbidden t g.barred (meets g) s i c) (clause_at w (place_at s i c)))
  unfolding row_places row_to
  row-clauses s i =
      map_join (clause_at w) (2 ^ w) (λ c. only (forbidden t g.barred (meets g) s i c) (place_at s i c))
      ∙ (λ z. join_to (whole z) (λ c. map-only (clause_at w) (forbidden t g.barred (meets g) s i c) (place_at s i c) z))

  stage_clauses : (s : ℕ) → map (clause_at w) (stage_places g s) ≡ join_to m (λ i. join_to (t + (2 ^ w - t)) (λ c. only (forbidden t g.barred (meets g) s i c) (clause_at w (place_at s i c))))
  unfolding stage_places
  stage_clauses s = map_join (clause_at w) m (λ i. row_places g (row_of s i)) ∙ (λ z. join_to m (λ i. row-clauses s i z))

  stage_0 : map (clause_at w) (stage_places g 0) ≡ beyond g
  unfolding beyond forbidden place_at clause_at
  stage_0 = stage_clauses 0 ∙ (λ z. join_to m (λ i. from_on t (2 ^ w - t) (g.barred i) (bar w i) z))

  stage_1 : map (clause_at w) (stage_places g 1) ≡ bars g
  unfolding bars forbidden place_at clause_at
  stage_1 = stage_clauses 1 ∙ (λ z. join_to m (λ i. only_below t (2 ^ w - t) (g.barred i) (bar w i) z))

  stage_pairs : (h : ℕ) → map (clause_at w) (stage_places g (suc (suc h))) ≡ join_to m (λ i. join_to t (λ c. only (meets g h i c) (bar w h c ++ bar w i c)))
  unfolding forbidden place_at clause_at
  stage_pairs h = stage_clauses (suc (suc h)) ∙ (λ z. join_to m (λ i. only_below t (2 ^ w - t) (meets g h i) (λ c. bar w h c ++ bar w i c) z))

  -- the clauses are those at the places
  pub map_places : map (clause_at w) (places_of g) ≡ clauses_of g
  unfolding clauses_of places_of pairs
  map_places =
      map_join (clause_at w) (suc (suc m)) (stage_places g)
      ∙ join_front (suc m) (λ s. map (clause_at w) (stage_places g s))
      ∙ (λ z. stage_0 z ++ (join_front m (λ s. map (clause_at w) (stage_places g (suc s))) ∙ (λ y. stage_1 y ++ join_to m (λ h. stage_pairs h y))) z)

  -- as many as there are
  pub length_places : length (places_of g) ≡ length (clauses_of g)
  length_places = sym (length-map (places_of g) (clause_at w)) ∙ ap length map_places

  -- clause n is the one at place n
  pub clause_at_lem : (n : ℕ) (x : Place) → Hit (places_of g) n x → get_or (clauses_of g) n [] ≡ clause_at w x
  clause_at_lem n x h = ap (λ l. get_or l n []) (sym map_places) ∙ get_or-map (clause_at w) (places_of g) n x [] h.inside ∙ ap (clause_at w) h.is

  -- a place has connections and a code within the limits
  module _ (few-connections : m ≤ most_connections) (few_codes : 2 ^ w ≤ most_codes) where
    within-at : (s i c : ℕ) → s < m + 2 → i < m → c < 2 ^ w → Within (place_at s i c)
    unfolding place_at
    within-at zero i c l k e = (omega arith, omega arith)
    within-at (suc zero) i c l k e = (omega arith, omega arith)
    within-at (suc (suc h)) i c l k e = (omega arith, omega arith, omega arith)

    pub place-within : (n : ℕ) (x : Place) → Hit (places_of g) n x → Within x
    place-within n x h = subst Within h.is (each_at Within (places_of g) x (all_places g Within within-at) n h.inside)
