-- `starts` walks the records once: each starts where the one before it ends, and lies in the file (record_within).
use mathlib.Core.Path.{◌≡◌}
use Prim.Native.Nat.{ℕ, ◌≤◌, ◌<◌}
use lib.ListN.{length, get_or}
use Rattle.channel.specs.Limits.{most_tracks}
use Rattle.jobfile.specs.Rows.{start}
use Rattle.jobfile.proofs.file.JobFile.starts.Given as goal

abbrev pub invariant-loop-u : goal.invariant-loop-u
invariant-loop-u l = let f = l.self.bytes.now in (length l.offsets ≡ most_tracks) × (l.at ≡ start f l.u) × ((x : ℕ) → x < l.u → get_or l.offsets x 0 ≡ start f x) × ((x : ℕ) → l.u ≤ x → x < most_tracks → get_or l.offsets x 0 ≡ 0)
