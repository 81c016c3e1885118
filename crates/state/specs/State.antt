-- Document 02, A2: the panel's state, one array of bytes: N, T and the number of connections, a byte each; room for the most connections, three bytes each; a load
-- for each of the columns 0 to 255, of which 0 is never used. Every array is a state: a number above the most reads as the most. Assumes nothing: these are definitions.
use Rattle.std.specs.Prelude.{◌≡◌, cond, List, ◌∷◌, ℕ, ◌+◌, ◌-◌, ◌*◌, ◌≤◌, min, ltb, get_or, replicate}
use Rattle.channel.specs.Limits.{most_columns, most_connections}
use Rattle.channel.specs.Channel.{Connection}
use Rattle.loads.specs.Loads.{load}
use Rattle.jobfile.specs.Rows.{tab, connection_size, connection_read}

-- where connection i + 1 stands, and the load of column 0; how many bytes a state has
abbrev pub record_at : ℕ → ℕ
record_at i = 3 + connection_size * i

abbrev pub loads_at : ℕ
loads_at = record_at most_connections

abbrev pub state_bytes : ℕ
state_bytes = loads_at + (most_columns + 1)

-- a state for N and T with no connection
abbrev pub empty_panel : ℕ → ℕ → List ℕ
empty_panel n t = n ∷ t ∷ replicate (state_bytes - 2) 0

-- a number of connections as it is read
abbrev pub at_most : ℕ → ℕ
at_most m = min m most_connections

module _ (s : List ℕ) where
  -- N, T, M
  abbrev pub n_in : ℕ
  n_in = get_or s 0 0

  abbrev pub t_in : ℕ
  t_in = get_or s 1 0

  abbrev pub m_in : ℕ
  m_in = at_most (get_or s 2 0)

  -- connection i + 1, and the list of them
  abbrev pub connection_in : ℕ → Connection
  connection_in i = connection_read s (record_at i)

  abbrev pub list_in : List Connection
  list_in = tab connection_in m_in 0

  -- the load that is kept for column x
  abbrev pub load_in : ℕ → ℕ
  load_in x = get_or s (loads_at + x) 0

  -- the loads are true: those of the list
  pub record Kept : Type 0 where
    pub loads : (x : ℕ) → 1 ≤ x → x ≤ n_in → load_in x ≡ load list_in x

-- a load's byte one more and one less: at its most it stays, and at 0
unfoldable pub up : ℕ → ℕ
up b = cond (ltb b 255) (b + 1) b

abbrev pub down : ℕ → ℕ
down b = b - 1
