-- Document 01, "Clause lines": what stands in each of the three groups, and that literals stand in variable order. Assumes nothing: these are definitions.
use Rattle.std.specs.Prelude.{◌≡◌, true, false, [], ◌∷◌, ◌++◌, ℕ, ◌+◌, ◌^◌, ◌≤◌, ◌<◌}
use Rattle.dimacs.specs.Clause.{Clause}
use Rattle.clauses.specs.Clauses.{Grid, width_of, bar}

module _ (g : Grid) (x : Clause) where
  -- x forbids a code from T to 2 ^ w − 1 to a connection
  pub record InBeyond : Type 0 where
    pub connection : ℕ
    pub code : ℕ
    pub inside : connection < g.connections
    pub above : g.tracks ≤ code
    pub below : code < 2 ^ width_of g
    pub is : x ≡ bar (width_of g) connection code

  -- x forbids the code of a barred track to a connection
  pub record InBars : Type 0 where
    pub connection : ℕ
    pub code : ℕ
    pub inside : connection < g.connections
    pub track : code < g.tracks
    pub barred : g.barred connection code ≡ true
    pub is : x ≡ bar (width_of g) connection code

  -- x forbids a code to two connections together, m < n, m's variables first: they collide on its track, and it is barred for neither
  pub record InPairs : Type 0 where
    pub m : ℕ
    pub n : ℕ
    pub code : ℕ
    pub order : m < n
    pub inside : n < g.connections
    pub track : code < g.tracks
    pub collide : g.collide m n code ≡ true
    pub free_m : g.barred m code ≡ false
    pub free_n : g.barred n code ≡ false
    pub is : x ≡ bar (width_of g) m code ++ bar (width_of g) n code

-- the variables of a clause stand in order: each is above the one before it, the first at least `from`, and all are below `to`
unfoldable pub Rises : ℕ → Clause → ℕ → Type 0
Rises from [] to = from ≤ to
Rises from (l ∷ c) to = (from ≤ l.variable) × Rises (l.variable + 1) c to
