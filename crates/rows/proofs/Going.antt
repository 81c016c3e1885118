-- The lines of a routing, one more at a time: the cell that is read for a label, which is not barred, has the first and last occupied segment. Assumes nothing.
use mathlib.Core.Path.{◌≡◌, sym, subst, ◌∙◌}
use mathlib.Core.List.{List}
use Prim.Native.Nat.{ℕ, ◌+◌, ◌*◌, ◌≤◌, ◌<◌}
use native.Mathlib.Omega.{arith}
use native.Mathlib.Numerals.{add-one}
use lib.ListN.{length, get_or}
use borrow.Author.Tests.{ltb-false}
use Rattle.text.specs.declared.Writer.{Writer}
use Rattle.text.specs.Text.{Puts}
use Rattle.text.proofs.Writing.{◌followed_by◌, puts_none}
use Rattle.channel.specs.Channel.{occupied_by, track_at, connection_at}
use Rattle.channel.specs.Routing.{Routing}
use Rattle.jobfile.specs.Rows.{t_of, m_of, k_of, job_of}
use Rattle.jobfile.specs.Facts.{Facts}
use Rattle.jobfile.proofs.Exact.{job_numbers}
use Rattle.occupancy.specs.Runs.{Run, Cell}
use Rattle.rows.specs.Rows.{row_room, first_of, last_of, row_text, rows_text}
use Rattle.rows.proofs.Runs.{run-first, run-last}

-- the lines of the first i connections are written
pub record Going (f q : List ℕ) (old new : Writer) (i : ℕ) : Type 0 where
  pub facts : Facts f
  pub routing : Routing (job_of f) q
  pub room : old.at + length q * row_room ≤ length old.buf.now
  pub reached : new.at ≤ old.at + i * row_room
  pub puts : Puts old (rows_text (job_of f) q i) new

pub going_first : (f q : List ℕ) (old : Writer) → Facts f → Routing (job_of f) q → old.at + length q * row_room ≤ length old.buf.now → Going f q old old 0
unfolding rows_text
going_first f q old g r h = record { facts = g; routing = r; room = h; reached = omega arith; puts = puts_none old }

module _ {f q : List ℕ} {old new : Writer} {i : ℕ} (g : Going f q old new i) where
  module _ (h : i < length q) where
    pub going_room : new.at + row_room ≤ length new.buf.now
    going_room = omega (arith, g.puts.long, g.room, g.reached)

    -- the label is one of 1 to T, and the connection is one of the file's
    pub going_low : 1 ≤ get_or q i 0
    going_low = (g.routing.legal.labels i h).0

    pub going_high : get_or q i 0 ≤ t_of f
    going_high = omega (arith, (g.routing.legal.labels i h).1, (job_numbers f).t_is)

    pub going_connection : i < m_of f
    going_connection = omega (arith, g.routing.whole, (job_numbers f).m_is)

    -- the cell that was read for it, and what it tells
    module _ {a e : ℕ} (cell : Cell (k_of f) (track_at (job_of f).tracks (get_or q i 0)) (connection_at (job_of f).connections i) a e) where
      order : a ≤ e
      order = ltb-false _ _ (sym cell.shut ∙ g.routing.legal.allowed i h)

      run : Run (track_at (job_of f).tracks (get_or q i 0)) (connection_at (job_of f).connections i) a e
      run = cell.run (g.routing.legal.allowed i h)

      -- one line more
      pub going_on : {new' : Writer} → Puts new (row_text (i + 1) (get_or q i 0) (a + 1) (e + 1)) new' → new'.at ≤ new.at + row_room → Going f q old new' (i + 1)
      unfolding rows_text
      going_on {new'} w b =
          let ks : List ℕ = occupied_by (track_at (job_of f).tracks (get_or q i 0)) (connection_at (job_of f).connections i) in
          let line : row_text (i + 1) (get_or q i 0) (a + 1) (e + 1) ≡ row_text (i + 1) (get_or q i 0) (first_of ks) (last_of ks) = (λ k. row_text (i + 1) (get_or q i 0) (sym (run-first _ _ _ _ run order) k) (sym (run-last _ _ _ _ run order) k)) in
          record {
            facts = g.facts;
            routing = g.routing;
            room = g.room;
            reached = omega (arith, g.reached);
            puts = rw add-one (g.puts followed_by subst (λ (t : List ℕ). Puts new t new') line w);
          }
