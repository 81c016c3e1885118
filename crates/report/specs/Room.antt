-- Stepping stones: the room that a first line has, and the whole text. Assumes nothing: these are definitions.
use Rattle.std.specs.Prelude.{ℕ, ◌+◌, ◌*◌}
use Rattle.channel.specs.Limits.{most_connections}
use Rattle.rows.specs.Rows.{row_room}

-- what is asked of the buffer for a first line
abbrev pub first_room : ℕ
first_room = 40

-- and with a line for each connection
abbrev pub text_room : ℕ
text_room = first_room + most_connections * row_room
