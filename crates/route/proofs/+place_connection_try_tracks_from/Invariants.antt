-- The search: placing a connection tries its tracks in order, and each call answers what the budget leaves of the search tree below it.
-- The number that falls: the connections that are left, twice, and one less inside the trying of tracks. Assumes nothing.
use mathlib.Core.Path.{◌≡◌}
use mathlib.Core.List.{List}
use Prim.Native.Nat.{ℕ, ◌-◌, ◌*◌}
use Rattle.occupancy.specs.declared.runs.Table.{Table}
use Rattle.route.specs.declared.Step.{Step}
use Rattle.route.specs.Cut.{CutTo, trying}
use Rattle.route.proofs.+place_connection_try_tracks_from.Given as goal

abbrev pub decreases-place_connection : goal.decreases-place_connection
decreases-place_connection l = (l.table.now.connections - l.i) * 2

abbrev pub decreases-try_tracks_from : goal.decreases-try_tracks_from
decreases-try_tracks_from l = (l.table.now.connections - l.i) * 2 - 1

-- where the loop stands: the labels are as they were, and what is right of the tracks from t on is right of all from the first on
pub record Going (r : Table) (labels₀ : List ℕ) (i : ℕ) (marks : List ℕ) (budget from : ℕ) (labels : List ℕ) (t left : ℕ) : Type 0 where
  pub same : labels ≡ labels₀
  pub rest : (s : Step) (l : List ℕ) → CutTo left i (trying r i marks t) labels₀ s l → CutTo budget i (trying r i marks from) labels₀ s l

abbrev pub invariant-try_tracks_from-loop-t : goal.invariant-try_tracks_from-loop-t
invariant-try_tracks_from-loop-t l = Going l.table l.initial.labels l.i l.marks.0 l.budget l.fn.from.0 l.labels l.t l.left
