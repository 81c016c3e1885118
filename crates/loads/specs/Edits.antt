-- Document 02, A2: the edits of a list of connections, which of them are refused, and the list that a sequence of them describes. Connections are numbered
-- from 1. Assumes nothing: these are definitions.
use Rattle.std.specs.Prelude.{◌≡◌, Bool, true, false, ◌&&◌, cond, List, [], ◌∷◌, ◌++◌, ℕ, ◌+◌, ◌-◌, leb, ltb, length, set}
use Rattle.refusals.specs.Table.{Rows, row, ◌or◌, nowhere}
use Rattle.channel.specs.Limits.{most_connections}
use Rattle.channel.specs.Channel.{Connection, connection_at}
use Rattle.channel.specs.Relaxed.{without}

pub data Edit : Type 0 where
  clear : Edit
  add : Connection → Edit
  drop : ℕ → Edit
  move : ℕ → ℕ → ℕ → Edit

-- a connection with other columns; it keeps its mark
abbrev pub moved : Connection → ℕ → ℕ → Connection
moved c l r = record { left = l; right = r; mark = c.mark }

-- what an edit makes of the list: add appends, drop closes the gap, move changes the columns in place
unfoldable pub edited : Edit → List Connection → List Connection
edited clear cs = []
edited (add c) cs = cs ++ (c ∷ [])
edited (drop k) cs = without (k - 1) cs
edited (move k l r) cs = set cs (k - 1) (moved (connection_at cs (k - 1)) l r)

-- the three tests: there is room for one more; the columns are good among n; there is a connection numbered k
unfoldable pub has_room : List Connection → Bool
has_room cs = ltb (length cs) most_connections

unfoldable pub good : ℕ → ℕ → ℕ → Bool
good n l r = leb 1 l && (leb l r && leb r n)

unfoldable pub has_number : List Connection → ℕ → Bool
has_number cs k = leb 1 k && leb k (length cs)

-- the rows that fit each edit of a list over n columns: 2 for a list at its limit, 5 for a bad connection, 10 for a number that is absent. The place is 0, and
-- for 5 the connection's number, which on add is one more than there are
abbrev pub edit_rows : ℕ → List Connection → Edit → Rows
edit_rows n cs clear = λ num place. ⊥
edit_rows n cs (add c) = row 2 (nowhere (has_room cs ≡ false)) or row 5 (λ place. (good n c.left c.right ≡ false) × (place ≡ length cs + 1))
edit_rows n cs (drop k) = row 10 (nowhere (has_number cs k ≡ false))
edit_rows n cs (move k l r) = row 5 (λ place. (good n l r ≡ false) × (place ≡ k)) or row 10 (nowhere (has_number cs k ≡ false))

-- no row fits
unfoldable pub accepted : ℕ → List Connection → Edit → Bool
accepted n cs clear = true
accepted n cs (add c) = has_room cs && good n c.left c.right
accepted n cs (drop k) = has_number cs k
accepted n cs (move k l r) = good n l r && has_number cs k

-- the list that a sequence of edits describes, the first edit first: one that is refused changes nothing
unfoldable pub after : ℕ → List Edit → List Connection → List Connection
after n [] cs = cs
after n (e ∷ es) cs = after n es (cond (accepted n cs e) (edited e cs) cs)
