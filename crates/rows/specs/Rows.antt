-- Document 01, "Numbers to hold against it": the lines of a routing, one for each connection. Assumes nothing: these are definitions.
use Rattle.std.specs.Prelude.{List, [], ◌∷◌, ◌++◌, ℕ, zero, suc, ◌+◌, ◌-◌, length, get_or}
use Rattle.text.specs.Text.{digits}
use Rattle.channel.specs.Channel.{Job, occupied_by, track_at, connection_at}

-- a number of at most three digits
abbrev pub small : ℕ → List ℕ
small n = digits 2 n

-- a blank, and LF
abbrev pub blank : List ℕ
blank = 32 ∷ []

abbrev pub lf : List ℕ
lf = 10 ∷ []

-- connection, track, first and last occupied segment
unfoldable pub row_text : ℕ → ℕ → ℕ → ℕ → List ℕ
row_text i l a e = small i ++ blank ++ small l ++ blank ++ small a ++ blank ++ small e ++ lf

-- what is asked of the buffer for a connection's line
abbrev pub row_room : ℕ
row_room = 16

-- the first and the last of a list
abbrev pub first_of : List ℕ → ℕ
first_of ks = get_or ks 0 0

abbrev pub last_of : List ℕ → ℕ
last_of ks = get_or ks (length ks - 1) 0

-- the lines of the first n connections on the tracks q
unfoldable pub rows_text : Job → List ℕ → ℕ → List ℕ
rows_text j q zero = []
rows_text j q (suc n) =
    rows_text j q n
    ++ (let ks = occupied_by (track_at j.tracks (get_or q n 0)) (connection_at j.connections n) in row_text (n + 1) (get_or q n 0) (first_of ks) (last_of ks))
