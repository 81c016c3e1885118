use mathlib.Core.Path.{◌≡◌, sym, subst, ◌∙◌}
use mathlib.Core.Bool.{Bool, true}
use mathlib.Core.List.{List}
use Prim.Native.Nat.{ℕ, ◌+◌, ◌-◌, ◌≤◌}
use native.Mathlib.Omega.{arith}
use Rattle.search.specs.Tree.{place}
use Rattle.occupancy.specs.declared.runs.Table.{Table}
use Rattle.marks.specs.Marking.{marking, fits_in, taken_in}
use Rattle.marks.proofs.Laws.{fits_open}
use Rattle.route.specs.declared.Step.{Step}
use Rattle.route.specs.Cut.{CutTo, placing}
use Rattle.route.proofs.Cut.{done, place_more, tries_end, tries_out, tries-passed, tries_hit, tries_missed, tries_starved, dead_keeps}
use Rattle.route.proofs.+place_connection_try_tracks_from.Goals as goal
use Rattle.route.proofs.+place_connection_try_tracks_from.Goals.{try_tracks_from-then-fits+in-Dead, try_tracks_from-else-fits}

module _ (r : Table) (i : ℕ) (marks : List ℕ) (l : ℕ) where
  -- past the test, the track fits
  fitted : {b : Bool} → b ≡ fits_in r.runs i marks l → b ≡ true → (marking r.runs r.tracks).ok (i, marks) l ≡ true
  unfolding marking
  fitted e h = sym e ∙ h

  -- what the placing of the next connection answers of the state after the track
  placed : (left : ℕ) (labels₀ labels next : List ℕ) (s : Step) (out : List ℕ) → labels ≡ labels₀ → next ≡ taken_in r.runs i marks l → CutTo left (i + 1) (placing r (i + 1) next) labels s out
      → CutTo left (i + 1) (place (marking r.runs r.tracks) (r.connections - (i + 1)) ((marking r.runs r.tracks).next (i, marks) l)) labels₀ s out
  unfolding marking
  placed left labels₀ labels next s out same e h =
      subst (λ (x : List ℕ). CutTo left (i + 1) (placing r (i + 1) x) labels₀ s out) e
      (subst (λ (x : List ℕ). CutTo left (i + 1) (placing r (i + 1) next) x s out) same h)

pub place_connection-returns-then-i-table : goal.place_connection-returns-then-i-table
place_connection-returns-then-i-table t c = done _ _ _ _ _ _ (omega arith)

pub place_connection-returns-else-i-table : goal.place_connection-returns-else-i-table
unfolding marking
place_connection-returns-else-i-table t c =
    let a = c.args in
    let r = a.table.now in
    rw (place_more (marking r.runs r.tracks) (a.i, a.marks.0) r.connections a.i (omega arith)) c.try_tracks_from.ensures

pub try_tracks_from-returns-then-left-eq0 : goal.try_tracks_from-returns-then-left-eq0
try_tracks_from-returns-then-left-eq0 t c = rw c.loop-t.invariant.same (c.loop-t.invariant.rest _ _ (tries_out _ _ _ _ _ _ _ _ (omega arith) c.if-left-eq0.true))

pub try_tracks_from-take-requires : goal.try_tracks_from-take-requires
try_tracks_from-take-requires t c =
    let p = c.requires in
    (p.0.inside _ _ p.1 (omega arith) (omega arith), fits_open _ _ _ _ (sym c.fits.ensures ∙ c.if-fits.true))

pub try_tracks_from-returns-in-Found : goal.try_tracks_from-returns-in-Found
try_tracks_from-returns-in-Found t c =
    let a = c.args in
    let l = c.loop-t in
    let p = placed a.table.now a.i a.marks.0 l.t _ a.labels.now l.labels _ _ _ l.invariant.same c.take.ensures c.place_connection.ensures in
    l.invariant.rest _ _ (tries_hit _ _ _ _ _ _ _ _ _ _ (omega arith) (fitted a.table.now a.i a.marks.0 l.t c.fits.ensures c.if-fits.true) c.if-left-eq0.false (rw c.in-Found.is at p))

pub try_tracks_from-returns-in-Spent : goal.try_tracks_from-returns-in-Spent
try_tracks_from-returns-in-Spent t c =
    let a = c.args in
    let l = c.loop-t in
    let p = placed a.table.now a.i a.marks.0 l.t _ a.labels.now l.labels _ _ _ l.invariant.same c.take.ensures c.place_connection.ensures in
    l.invariant.rest _ _ (tries_starved _ _ _ _ _ _ _ _ _ (omega arith) (fitted a.table.now a.i a.marks.0 l.t c.fits.ensures c.if-fits.true) c.if-left-eq0.false (rw c.in-Spent.is at p))

pub try_tracks_from-loop-t-preserved : goal.try_tracks_from-loop-t-preserved
unfolding marking
try_tracks_from-loop-t-preserved t c =
    let a = c.args in
    let l = c.loop-t in
    let lt : l.t ≤ a.table.now.tracks = omega arith in
    let nz = c.if-left-eq0.false in
    elim c.if-fits.branch [
      | try_tracks_from-then-fits+in-Dead w ↦
          let p = placed a.table.now a.i a.marks.0 l.t _ a.labels.now l.labels _ _ _ l.invariant.same w.take.ensures w.place_connection.ensures in
          let d = rw w.in-Dead.is at p in
          let kept = dead_keeps _ _ _ _ _ _ d in
          rw (w.labels-is, w.left-is)
          (record {
            same = kept.0;
            rest = λ s x y. l.invariant.rest s x (tries_missed _ _ _ _ _ _ _ _ _ _ _ _ lt (fitted a.table.now a.i a.marks.0 l.t c.fits.ensures w.if-fits.true) nz d (rw kept.0 y));
          })
      | try_tracks_from-else-fits w ↦
          rw (w.labels-is, w.left-is)
          (record {
            same = l.invariant.same;
            rest = λ s x y. l.invariant.rest s x (tries-passed _ _ _ _ _ _ _ _ _ _ lt (sym c.fits.ensures ∙ w.if-fits.false) nz y);
          })
    ]

pub try_tracks_from-returns : goal.try_tracks_from-returns
try_tracks_from-returns t c = rw c.loop-t.invariant.same (c.loop-t.invariant.rest _ _ (tries_end _ _ _ _ _ _ _ _ (omega arith)))
