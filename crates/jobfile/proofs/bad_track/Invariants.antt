-- `bad_track` stands at the start of track u + 1's record (the invariant), with every record before it fine; behind the last, a byte left over is one before e.
use mathlib.Core.Path.{◌≡◌}
use Prim.Native.Nat.{ℕ, ◌≤◌, ◌<◌}
use Rattle.jobfile.specs.Rows.{start, FineAt}
use Rattle.jobfile.proofs.bad_track.Given as goal

abbrev pub invariant-loop-u : goal.invariant-loop-u
invariant-loop-u l = (l.at ≡ start l.f l.u) × (l.at ≤ l.e) × ((x : ℕ) → x < l.u → FineAt l.f l.n l.e (start l.f x))
