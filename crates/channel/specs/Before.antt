-- Document 01's rule as it stood before nets, for jobs whose marks are those it knew. Assumes nothing: these are definitions.
use Rattle.std.specs.Prelude.{Bool, ◌&&◌, ◌||◌, not, ℕ, ◌≤◌, eqb}
use Rattle.channel.specs.Channel.{Track, Connection, Job, performance, too_many, share, track_at, connection_at, T, M}
use Rattle.channel.specs.Valid.{Each}
use Rattle.channel.specs.Routing.{Rules}

-- every mark is 0, plain, or 1, critical
abbrev pub OldMarks : Job → Type 0
OldMarks j = Each (λ c. c.mark ≤ 1) j.connections

-- barred: more than K segments; or the mark is 1, and the track is no performance track
unfoldable pub barred_before : ℕ → Track → Connection → Bool
barred_before limit t c = too_many limit t c || (eqb c.mark 1 && not (performance t))

-- two connections collide where they share a segment
abbrev pub rules_before : Job → Rules
rules_before j =
    record {
      tracks = T j;
      connections = M j;
      barred = λ i l. barred_before j.limit (track_at j.tracks l) (connection_at j.connections i);
      collide = λ h i l. share (track_at j.tracks l) (connection_at j.connections h) (connection_at j.connections i);
    }
