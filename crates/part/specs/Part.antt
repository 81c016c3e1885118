-- Document 01, "House part P1": a part by its numbers and its table of right ends, the job that it gives, and the rule of its table. P1 is one value of it.
-- Assumes nothing: these are definitions.
use Rattle.std.specs.Prelude.{◌≡◌, Bool, cond, ◌&&◌, ◌||◌, List, [], ◌∷◌, ℕ, zero, suc, ◌+◌, ◌-◌, ◌≤◌, ◌<◌, leb, eqb, length, get_or, take, drop}
use Rattle.facts.specs.Same.{same}
use Rattle.channel.specs.Limits.{most_columns, most_tracks, most_segments}
use Rattle.channel.specs.Channel.{Track, Connection, Job}
use Rattle.channel.specs.Valid.{TrackRule}
use Rattle.jobfile.specs.Rows.{tab}

-- the tracks of a part, kept as a table: how many of them, the first, are no performance tracks; where the right ends of each track start, and behind the
-- last of these the table's length; the right ends
pub record Table : Type 0 where
  pub plain : ℕ
  pub starts : List ℕ
  pub ends : List ℕ

-- a part: columns 1 to N, and its tracks
pub record Part : Type 0 where
  pub columns : ℕ
  pub table : Table

abbrev pub table_of : ℕ → List ℕ → List ℕ → Table
table_of plain starts ends = record { plain = plain; starts = starts; ends = ends }

abbrev pub part_of : ℕ → ℕ → List ℕ → List ℕ → Part
part_of n plain starts ends = record { columns = n; table = table_of plain starts ends }

module _ (b : Table) where
  -- the number of tracks
  abbrev pub tracks_in : ℕ
  tracks_in = length b.starts - 1

  -- where the right ends of the track with code t start, and how many segments it has
  abbrev pub start_of : ℕ → ℕ
  start_of t = get_or b.starts t 0

  abbrev pub segments_of : ℕ → ℕ
  segments_of t = start_of (t + 1) - start_of t

  -- its right ends, and its performance flag
  abbrev pub ends_of : ℕ → List ℕ
  ends_of t = take (segments_of t) (drop (start_of t) b.ends)

  abbrev pub flag_of : ℕ → ℕ
  flag_of t = cond (leb b.plain t) 1 0

  -- the track with code t, and all of them
  abbrev pub track_of : ℕ → Track
  track_of t = record { flag = flag_of t; ends = ends_of t }

  abbrev pub tracks_of : List Track
  tracks_of = tab track_of tracks_in 0

-- the job that a part gives with these connections and this K
abbrev pub job_of_part : Part → List Connection → ℕ → Job
job_of_part p cs k = record { columns = p.columns; tracks = tracks_of p.table; limit = k; connections = cs }

-- the columns from c on, k of them, that pass a test
unfoldable pub columns_that : (ℕ → Bool) → ℕ → ℕ → List ℕ
columns_that f zero c = []
columns_that f (suc k) c = cond (f c) (c ∷ columns_that f k (suc c)) (columns_that f k (suc c))

-- the rule of a table over n columns: `rule t c` says whether column c is a right end of the track with code t; the last column always is
module _ (n : ℕ) (rule : ℕ → ℕ → Bool) where
  unfoldable pub is_end : ℕ → ℕ → Bool
  is_end t c = rule t c || eqb c n

  module _ (b : Table) where
    -- the test at one track: its right ends stand in the table, are not more than a track may have, and are the columns that the rule names
    unfoldable pub track_follows : ℕ → Bool
    track_follows t = leb (start_of b t) (start_of b (t + 1)) && (leb (segments_of b t) most_segments && same (ends_of b t) (columns_that (is_end t) n 1))

    -- at k tracks from code t on; behind them the table ends
    unfoldable pub tracks_follow : ℕ → ℕ → Bool
    tracks_follow zero t = eqb (start_of b t) (length b.ends)
    tracks_follow (suc k) t = track_follows t && tracks_follow k (suc t)

    -- the whole table follows the rule: one test, to be computed
    unfoldable pub follows : Bool
    follows = eqb (start_of b 0) 0 && tracks_follow (tracks_in b) 0

-- the starts cut the table into tracks, none with more segments than a track may have
pub record Cut (b : Table) : Type 0 where
  pub some : 1 ≤ tracks_in b
  pub few : tracks_in b ≤ most_tracks
  pub first : start_of b 0 ≡ 0
  pub last : start_of b (tracks_in b) ≡ length b.ends
  pub rises : (t : ℕ) → t < tracks_in b → start_of b t ≤ start_of b (t + 1)
  pub within : (t : ℕ) → t ≤ tracks_in b → start_of b t ≤ length b.ends
  pub narrow : (t : ℕ) → t < tracks_in b → segments_of b t ≤ most_segments

-- what a job of the part needs: columns within their limits, and tracks that keep their rule
pub record PartRule (p : Part) : Type 0 where
  pub low : 1 ≤ p.columns
  pub high : p.columns ≤ most_columns
  pub cut : Cut p.table
  pub tracks : (t : ℕ) → t < tracks_in p.table → TrackRule p.columns (track_of p.table t)
