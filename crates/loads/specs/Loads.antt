-- Document 02, A2: the load of a column, and the column at which the panel turns red. Assumes nothing: these are definitions.
use Rattle.std.specs.Prelude.{Bool, false, ◌&&◌, ◌||◌, not, List, [], ◌∷◌, ℕ, ◌+◌, ◌≤◌, ◌<◌, leb, eqb}
use Rattle.facts.specs.Odd.{bit_of}
use Rattle.channel.specs.Channel.{Connection, net, pieces}

-- the connection crosses column x: the column lies in left to right, ends included
unfoldable pub crosses : Connection → ℕ → Bool
crosses c x = leb c.left x && leb x c.right

-- one of the list is a piece of c's net and crosses column x
unfoldable pub covered : List Connection → Connection → ℕ → Bool
covered [] c x = false
covered (d ∷ ds) c x = (pieces d c && crosses d x) || covered ds c x

-- c brings a net over column x that none of the list brings: it crosses x, and no piece of its net in the list does
unfoldable pub brings : List Connection → Connection → ℕ → Bool
brings cs c x = crosses c x && not (covered cs c x)

-- the load of column x, how many distinct nets cross it: pieces of one net count once, at the last of them that crosses x, and each connection of net 0
-- by itself. `load_nets` counts the nets by their numbers
unfoldable pub load : List Connection → ℕ → ℕ
load [] x = 0
load (c ∷ cs) x = load cs x + bit_of (brings cs c x)

-- the same by the nets: a connection of net n crosses column x; how many of the connections on their own, of net 0, do
unfoldable pub net_over : List Connection → ℕ → ℕ → Bool
net_over [] n x = false
net_over (c ∷ cs) n x = (eqb (net c) n && crosses c x) || net_over cs n x

unfoldable pub on_their_own : List Connection → ℕ → ℕ
on_their_own [] x = 0
on_their_own (c ∷ cs) x = on_their_own cs x + bit_of (eqb (net c) 0 && crosses c x)

-- of loads of the columns 1 to n, none exceeds t; r is the first column whose load exceeds t
abbrev pub Green : (ℕ → ℕ) → ℕ → ℕ → Type 0
Green loads t n = (x : ℕ) → 1 ≤ x → x ≤ n → loads x ≤ t

pub record Red (loads : ℕ → ℕ) (t n r : ℕ) : Type 0 where
  pub low : 1 ≤ r
  pub high : r ≤ n
  pub over : t < loads r
  pub first : (x : ℕ) → 1 ≤ x → x < r → loads x ≤ t
