-- Document 01's lines of job A, of the one-track job and of a job without connections, by computing. Assumes nothing.
use mathlib.Core.Path.{◌≡◌, refl}
use mathlib.Core.List.{[], ◌∷◌}
use Rattle.text.specs.Text.{digits}
use Rattle.dimacs.specs.Lines.{literal_text, literals_text, clause_text, header_text}
use Rattle.channel.specs.Channel.{Job, performance, net, critical, pieces, count_to, any_to, left_end, occupied, taken, too_many, off_performance, barred, share, collide, track_at, connection_at}
use Rattle.channel.specs.Worked.{track1, track2, job_a, job_one}
use Rattle.clauses.specs.Clauses.{seek, bits_for, join_to, only, forbid, bar, beyond, bars, pairs, clauses_of, clause_count}
use Rattle.lines.specs.Lined.{text_of, line_text}

-- `p cnf 3 3`, `1 2 0`, `2 3 0`, `-2 -3 0`
pub lines_of_a :
    (clause_count (job_a 0) ≡ 3)
    × (line_text (job_a 0) 0 ≡ 112 ∷ 32 ∷ 99 ∷ 110 ∷ 102 ∷ 32 ∷ 51 ∷ 32 ∷ 51 ∷ 10 ∷ [])
    × (line_text (job_a 0) 1 ≡ 49 ∷ 32 ∷ 50 ∷ 32 ∷ 48 ∷ 10 ∷ [])
    × (line_text (job_a 0) 2 ≡ 50 ∷ 32 ∷ 51 ∷ 32 ∷ 48 ∷ 10 ∷ [])
    × (line_text (job_a 0) 3 ≡ 45 ∷ 50 ∷ 32 ∷ 45 ∷ 51 ∷ 32 ∷ 48 ∷ 10 ∷ [])
unfolding text_of clauses_of beyond bars pairs join_to only bar forbid bits_for seek literal_text literals_text clause_text header_text digits performance critical count_to any_to left_end occupied taken too_many off_performance barred share pieces net collide track_at connection_at
lines_of_a = (refl, refl, refl, refl, refl)

-- `p cnf 1 1`, `-1 0`
pub lines_of_one :
    (clause_count job_one ≡ 1)
    × (line_text job_one 0 ≡ 112 ∷ 32 ∷ 99 ∷ 110 ∷ 102 ∷ 32 ∷ 49 ∷ 32 ∷ 49 ∷ 10 ∷ [])
    × (line_text job_one 1 ≡ 45 ∷ 49 ∷ 32 ∷ 48 ∷ 10 ∷ [])
unfolding text_of clauses_of beyond bars pairs join_to only bar forbid bits_for seek literal_text literals_text clause_text header_text digits performance critical count_to any_to left_end occupied taken too_many off_performance barred share pieces net collide track_at connection_at
lines_of_one = (refl, refl, refl)

-- `p cnf 0 0`, and no clause
abbrev job_none : Job
job_none = record { columns = 6; tracks = track1 ∷ track2 ∷ []; limit = 2; connections = [] }

pub lines_of_none : (clause_count job_none ≡ 0) × (line_text job_none 0 ≡ 112 ∷ 32 ∷ 99 ∷ 110 ∷ 102 ∷ 32 ∷ 48 ∷ 32 ∷ 48 ∷ 10 ∷ [])
unfolding text_of clauses_of beyond bars pairs join_to only bits_for seek header_text digits
lines_of_none = (refl, refl)
