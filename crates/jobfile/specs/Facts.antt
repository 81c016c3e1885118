-- Stepping stones: the bytes of a file that is read, by their places: what code that walks the file needs. `facts_file` and `facts_of` (proofs/Exact.antt) say that
-- these are the facts of a job's file. The last lines say that of each fact there is one proof at most. Assumes nothing.
use Rattle.std.specs.Prelude.{◌≡◌, List, [], ◌∷◌, ℕ, ◌*◌, ◌+◌, ◌≤◌, ◌<◌, length, get_or}
use Rattle.channel.specs.Limits.{most_tracks, Limits}
use Rattle.std.specs.Coded.{Coded-set, coded_ℕ, ×_prop, le_prop}
use Rattle.std.proofs.Props.{props}
use Rattle.channel.specs.Valid.{Rising, ConnectionRule}
use Rattle.jobfile.specs.declared.file.Sizes.{Sizes}
use Rattle.jobfile.specs.declared.Trailer.{Trailer}
use Rattle.jobfile.specs.declared.Connection.{Connection as Held}
use Rattle.jobfile.specs.Rows.{trailer_size, connection_size, trailer_at, two_at, connections_at, n_of, t_of, m_of, k_of, start, connection_read, FineAt, Placed}

-- the bytes of a file that is read, by their places: what code that walks the file needs
pub record Facts (f : List ℕ) : Type 0 where
  pub long : trailer_size ≤ length f
  pub limits : Limits (n_of f) (t_of f) (m_of f) (k_of f)
  pub placed : Placed (two_at f (trailer_at f)) (two_at f (trailer_at f + 2)) (trailer_at f) (m_of f)
  pub fine : (t : ℕ) → t < t_of f → FineAt f (n_of f) (connections_at f) (start f t)
  pub whole : start f (t_of f) ≡ connections_at f
  pub connection : (i : ℕ) → i < m_of f → ConnectionRule (n_of f) (connection_read f (connections_at f + connection_size * i))

-- where the record of each track starts, in a table for the most tracks; 0 behind the last
pub record Offsets (f offsets : List ℕ) : Type 0 where
  pub long : length offsets ≡ most_tracks
  pub at : (u : ℕ) → u < t_of f → get_or offsets u 0 ≡ start f u
  pub rest : (u : ℕ) → t_of f ≤ u → u < most_tracks → get_or offsets u 0 ≡ 0

-- N, T, M, K as code holds them
pub record SizesOf (f : List ℕ) (r : Sizes) : Type 0 where
  pub n_is : r.columns ≡ n_of f
  pub t_is : r.tracks ≡ t_of f
  pub m_is : r.connections ≡ m_of f
  pub k_is : r.limit ≡ k_of f

-- the trailer as code holds it: both distances, then N, T, M, K
pub record TrailerOf (f : List ℕ) (r : Trailer) : Type 0 where
  pub back1_is : r.back1 ≡ two_at f (trailer_at f)
  pub back2_is : r.back2 ≡ two_at f (trailer_at f + 2)
  pub sizes_are : SizesOf f r.sizes

-- the connection that starts at a byte, as code holds it
pub record ConnectionOf (f : List ℕ) (at : ℕ) (r : Held) : Type 0 where
  pub left_is : r.left ≡ get_or f at 0
  pub right_is : r.right ≡ get_or f (at + 1) 0
  pub mark_is : r.mark ≡ get_or f (at + 2) 0

-- of each fact there is one proof at most, so that a struct may keep it
pub Rising-prop : (n prev : ℕ) (ends : List ℕ) → IsProp (Rising n prev ends)
unfolding Rising
Rising-prop n prev [] = Coded-set coded_ℕ prev n
Rising-prop n prev (e ∷ es) = ×_prop le_prop (Rising-prop n e es)

pub ruleset fact_props = (props, Rising-prop)
