-- `put_tracks`: the invariant has the records of the tracks passed, and each turn writes one more behind them.
use mathlib.Core.Path.{◌≡◌}
use Prim.Native.Nat.{◌+◌, ◌*◌}
use Rattle.text.specs.Text.{Puts}
use Rattle.jobfile.specs.File.{track_bytes, joined}
use Rattle.jobfile.specs.Rows.{tab}
use Rattle.part.specs.Part.{start_of, track_of}
use Rattle.part.specs.Writes.{told}
use Rattle.part.proofs.held.Part.put_tracks.Given as goal

abbrev pub invariant-loop-t : goal.invariant-loop-t
invariant-loop-t l = let table = (told l.self).table in
    (l.out.at ≡ l.initial.out.at + (2 * l.t + start_of table l.t)) × Puts l.initial.out (joined track_bytes (tab (track_of table) l.t 0)) l.out
