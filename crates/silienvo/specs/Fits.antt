-- Stepping stones: what is known of the reader's answer before it is told as numbers. Assumes nothing: these are definitions.
use Rattle.std.specs.Prelude.{Result, Ok, Err, ℕ, ◌+◌, ◌*◌, ◌≤◌}
use Rattle.refusals.specs.declared.Refusal.{Refusal}
use Rattle.jobfile.specs.declared.file.Sizes.{Sizes}
use Rattle.jobfile.specs.Rows.{trailer_size, connection_size}

-- a job's connections stand before the trailer
abbrev pub ReadFits : ℕ → Result Sizes Refusal → Type 0
ReadFits n (Ok s) = connection_size * s.connections + trailer_size ≤ n
ReadFits n (Err r) = Unit
