-- Stepping stones: the marks of taken segments, one for each track and segment: 0, or its owner, a net or a connection on its own. `by_marking`
-- (proofs/Kept.antt) says that a search by marks is a search through the legal partial routings. Assumes nothing: these are definitions.
use Rattle.std.specs.Prelude.{Bool, true, ◌&&◌, ◌||◌, not, List, ℕ, zero, suc, ◌+◌, ◌*◌, ◌-◌, ◌≤◌, ◌<◌, ltb, eqb, get_or, set}
use Rattle.search.specs.Sequences.{Space}
use Rattle.channel.specs.Limits.{most_tracks, most_connections, most_segments}
use Rattle.occupancy.specs.Runs.{first_in, last_in, owner_in}

-- how many marks there are, and where those of the track labelled l start
abbrev pub mark_bytes : ℕ
mark_bytes = most_tracks * most_segments

abbrev pub base : ℕ → ℕ
base l = (l - 1) * most_segments

-- a segment with the mark m is free for an owner: nobody has it, or that owner
abbrev pub free : ℕ → ℕ → Bool
free owner m = eqb m 0 || eqb m owner

-- the n marks from a place on are free for an owner
unfoldable pub all_free : ℕ → List ℕ → ℕ → ℕ → Bool
all_free owner marks at zero = true
all_free owner marks at (suc n) = all_free owner marks at n && free owner (get_or marks (at + n) 0)

-- the marks with v on the n from a place on
unfoldable pub fill : ℕ → List ℕ → ℕ → ℕ → List ℕ
fill v marks at zero = marks
fill v marks at (suc n) = set (fill v marks at n) (at + n) v

module _ (owner : ℕ) (marks : List ℕ) (l a e : ℕ) where
  -- a connection of this owner whose first and last segment on the track labelled l are a and e fits there beside those that are marked: its last segment is
  -- not before the first, and its run is free
  unfoldable pub fits_run : Bool
  fits_run = not (ltb e a) && all_free owner marks (base l + a) (e + 1 - a)

  -- the marks with its own on that run
  unfoldable pub taken_run : List ℕ
  taken_run = fill owner marks (base l + a) (e + 1 - a)

-- the label is one of the marks', and a run ends among the marks of its track
pub record Among (l a e : ℕ) : Type 0 where
  pub label_low : 1 ≤ l
  pub label_high : l ≤ most_tracks
  pub short : a ≤ e → e < most_segments

module _ (runs : List ℕ) (i l : ℕ) where
  -- the first and last segment of connection i + 1 on the track labelled l, in the table
  abbrev pub first : ℕ
  first = first_in runs i (l - 1)

  abbrev pub last : ℕ
  last = last_in runs i (l - 1)

  -- connection and label are in the table, and the run is among the marks
  pub record Inside : Type 0 where
    pub connection : i < most_connections
    pub among : Among l first last

-- connection i + 1 fits on the track labelled l, and the marks with those it takes there, by the table
unfoldable pub fits_in : List ℕ → ℕ → List ℕ → ℕ → Bool
fits_in runs i marks l = fits_run (owner_in runs i) marks l (first runs i l) (last runs i l)

unfoldable pub taken_in : List ℕ → ℕ → List ℕ → ℕ → List ℕ
taken_in runs i marks l = taken_run (owner_in runs i) marks l (first runs i l) (last runs i l)

-- the search by marks over the table of t tracks. The state is the number of placed connections, and the marks
unfoldable pub marking : List ℕ → ℕ → Space (ℕ × List ℕ)
marking runs t = record { ok = λ s l. fits_in runs s.0 s.1 l; next = λ s l. (s.0 + 1, taken_in runs s.0 s.1 l); width = t }
