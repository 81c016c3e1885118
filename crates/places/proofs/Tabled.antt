-- The table of a job has the job's clauses. Assumes nothing.
use mathlib.Core.Path.{◌≡◌, sym}
use mathlib.Core.Bool.{false, ◌&&◌, not}
use mathlib.Core.List.{List}
use Prim.Native.Nat.{ℕ, ◌+◌, ◌<◌}
use native.Mathlib.Omega.{arith}
use Rattle.channel.specs.Channel.{Job, collide, track_at, connection_at, T, M, Barred, Collide}
use Rattle.clauses.specs.Clauses.{grid_of, clauses_of, clauses}
use Rattle.clauses.proofs.Same.{same-clauses}
use Rattle.occupancy.specs.Runs.{first_in, last_in, Tabled}
use Rattle.occupancy.proofs.Cells.{share_cells}
use Rattle.places.specs.Table.{shut, cross, table_grid}

module _ (j : Job) (runs : List ℕ) (d : Tabled j runs) where
  crosses : (h i c : ℕ) → h < i → i < M j → c < T j → Barred j h (c + 1) ≡ false → Barred j i (c + 1) ≡ false → Collide j h i (c + 1) ≡ cross runs h i c
  unfolding collide
  crosses h i c l k u e f =
      let shared = share_cells j.limit (track_at j.tracks (c + 1)) (connection_at j.connections h) (connection_at j.connections i) (first_in runs h c) (last_in runs h c) (first_in runs i c) (last_in runs i c)
      (d.cells h c (omega arith) u) (d.cells i c k u) e f in
      λ z. shared z && not (sym (d.owners.same h i l k) z)

  pub tabled_clauses : clauses_of (table_grid runs (T j) (M j)) ≡ clauses j
  tabled_clauses = sym (same-clauses (T j) (M j) (grid_of j).barred (shut runs) (grid_of j).collide (cross runs) (λ i c l u. (d.cells i c l u).shut) crosses)
