-- A list worked by hand: its loads, where it is red, and three edits of it. Assumes nothing.
use mathlib.Core.Path.{◌≡◌, refl}
use mathlib.Core.List.{List, [], ◌∷◌}
use Rattle.channel.specs.Channel.{Connection, net, pieces, connection_at}
use Rattle.channel.specs.Relaxed.{without}
use Rattle.channel.specs.Worked.{connection}
use Rattle.loads.specs.Loads.{crosses, covered, brings, load}
use Rattle.loads.specs.Edits.{add, drop, move, edited, has_room, good, has_number, accepted, after}

-- two pieces of net 1, one of them critical; one on its own; a third piece
abbrev four : List Connection
four = connection 1 4 2 ∷ connection 3 6 3 ∷ connection 2 5 0 ∷ connection 4 4 2 ∷ []

pub four_loads : (load four 1 ≡ 1) × (load four 2 ≡ 2) × (load four 3 ≡ 2) × (load four 4 ≡ 2) × (load four 5 ≡ 2) × (load four 6 ≡ 1) × (load four 7 ≡ 0)
unfolding load brings crosses covered pieces net
four_loads = (refl, refl, refl, refl, refl, refl, refl)

-- connection 1 dropped; the third of the rest, a piece of net 1, moved to 6 and 7, where it keeps its net; one of net 2 added; one moved out of the columns and
-- one dropped that is not there, both refused
pub four-edited : after 7 (drop 1 ∷ move 3 6 7 ∷ add (connection 7 7 4) ∷ move 1 6 8 ∷ drop 5 ∷ []) four ≡ connection 3 6 3 ∷ connection 2 5 0 ∷ connection 6 7 2 ∷ connection 7 7 4 ∷ []
unfolding after edited accepted has_room good has_number without connection_at
four-edited = refl
