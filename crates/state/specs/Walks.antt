-- Stepping stones: the walks of an edit. How far the pieces of a net reach, and the loads of some columns turned. `added`, `dropped` and `shifted`
-- (proofs/Adding.antt, Dropping.antt and Moving.antt of `panel`) say what they come to. Assumes nothing: these are definitions.
use Rattle.std.specs.Prelude.{◌≡◌, Bool, true, ◌&&◌, cond, ◌⊎◌, List, ℕ, zero, suc, ◌+◌, ◌≤◌, ◌<◌, max, leb, ltb, eqb, length, get_or}
use Rattle.channel.specs.Limits.{most_columns}
use Rattle.channel.specs.Channel.{Connection, net_in}
use Rattle.channel.specs.Relaxed.{without}
use Rattle.loads.specs.Loads.{covered}
use Rattle.jobfile.specs.Rows.{tab, connection_size}
use Rattle.state.specs.declared.Way.{Way}
use Rattle.state.specs.declared.Way.TheVariants.{Up, Down}
use Rattle.state.specs.State.{loads_at, connection_in, load_in, up, down}

-- column x is one of those from a up to, not including, e
unfoldable pub in_span : ℕ → ℕ → ℕ → Bool
in_span a e x = leb a x && ltb x e

-- two marks of one net
unfoldable pub one_net : ℕ → ℕ → Bool
one_net a b = ltb 0 (net_in a) && eqb (net_in a) (net_in b)

-- a connection with this mark; one of the first m connections but the one at `but` is a piece of its net and crosses x
abbrev pub with_mark : ℕ → Connection
with_mark k = record { left = 0; right = 0; mark = k }

unfoldable pub other_over : List ℕ → ℕ → ℕ → ℕ → ℕ → Bool
other_over s m but k x = covered (without but (tab (connection_in s) m 0)) (with_mark k) x

-- of the first m connections but the one at `but`, the pieces of the mark's net are set down, each at its left column or at l if that is later: at each column the
-- furthest right column of those set down there, 0 if none
pub record SetDown (s : List ℕ) (m but l k : ℕ) (reach : List ℕ) : Type 0 where
  pub long : length reach ≡ most_columns + 1
  pub whole : (i : ℕ) → i < m → (i ≡ but → ⊥) → one_net (connection_in s i).mark k ≡ true → (connection_in s i).right ≤ get_or reach (max (connection_in s i).left l) 0
  pub sound : (y : ℕ) → 0 < get_or reach y 0 → (i : ℕ) × (i < m) × (one_net (connection_in s i).mark k ≡ true) × ((connection_in s i).left ≤ y) × ((connection_in s i).right ≡ get_or reach y 0) × (i ≡ but → ⊥)

-- the furthest that those set down at the n columns from l on reach
unfoldable pub furthest : List ℕ → ℕ → ℕ → ℕ
furthest reach l zero = 0
furthest reach l (suc n) = max (furthest reach l n) (get_or reach (l + n) 0)

-- a load counted down or up
abbrev pub turn : Way → ℕ → ℕ
turn Up b = up b
turn Down b = down b

-- the loads of the columns that pass are turned; every other byte stays
pub record Turned (on : ℕ → Bool) (way : Way) (s s' : List ℕ) : Type 0 where
  pub long : length s' ≡ length s
  pub loads : (x : ℕ) → 1 ≤ x → load_in s' x ≡ cond (on x) (turn way (load_in s x)) (load_in s x)
  pub others : (k : ℕ) → k ≤ loads_at → get_or s' k 0 ≡ get_or s k 0

-- the bytes from a up to, not including, e have moved down by a connection
pub record Closed (a e : ℕ) (s s' : List ℕ) : Type 0 where
  pub long : length s' ≡ length s
  pub inside : (k : ℕ) → a ≤ k → k < e → get_or s' k 0 ≡ get_or s (k + connection_size) 0
  pub outside : (k : ℕ) → (k < a) ⊎ (e ≤ k) → get_or s' k 0 ≡ get_or s k 0
