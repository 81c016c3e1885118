-- The answers of `line`, one law for each way out. Assumes nothing.
use mathlib.Core.Path.{◌≡◌, refl, ap, ◌∙◌, subst}
use mathlib.Core.List.{List, []}
use Prim.Native.Nat.{ℕ, zero, suc, ◌*◌, ◌≤◌, ◌<◌}
use native.Mathlib.Omega.{arith}
use lib.ListN.{length, get_or}
use Rattle.std.specs.Prelude.{Result, Ok, Err}
use Rattle.refusals.specs.declared.Refusal.{Refusal}
use Rattle.refusals.specs.Refusal.{RefusedBy}
use Rattle.refusals.specs.Table.{line, before, Refuses, Passes}
use Rattle.refusals.proofs.Laws.{refuses_left, refuses_right, refuses_row, passes_row, behind_row, behind_or, printed_order}
use Rattle.text.specs.Text.{Wrote}
use Rattle.dimacs.specs.Lines.{clause_text, header_text}
use Rattle.channel.specs.Channel.{T, M}
use Rattle.jobfile.specs.Rows.{Bytes, file_rows, job_of}
use Rattle.jobfile.specs.Facts.{Facts}
use Rattle.jobfile.proofs.Exact.{facts_file, facts_pass, job_numbers, file-before}
use Rattle.clauses.specs.Clauses.{Grid, grid_of, bits_for, clauses_of, clauses}
use Rattle.occupancy.specs.declared.runs.Table.{Table}
use Rattle.occupancy.specs.Runs.{TableOf}
use Rattle.places.specs.Table.{table_grid}
use Rattle.places.proofs.Tabled.{tabled_clauses}
use Rattle.lines.specs.Lined.{most_line, text_of}
use Rattle.lines.specs.OverTable.{Lined}
use Rattle.lines.specs.Writes.{line_rows, WritesLine}

-- the file's rows stand before 9 and 10
pub file_early : (f : List ℕ) (x p : ℕ) → file_rows f x p → line x ≤ 4
file_early f x p h = omega (arith, file-before f x p h, printed_order)

-- the text of a line rests on nothing but the numbers and the clauses
text_same : (g g' : Grid) → g.tracks ≡ g'.tracks → g.connections ≡ g'.connections → clauses_of g ≡ clauses_of g' → (n : ℕ) → text_of g n ≡ text_of g' n
unfolding text_of
text_same g g' a b e zero = λ z. header_text (b z * bits_for (a z)) (length (e z))
text_same g g' a b e (suc n) = ap (λ cs. clause_text (get_or cs n [])) e

module _ (f old : List ℕ) (number : ℕ) where
  -- refused by a row of the file
  pub refused_file : (r : Refusal) → RefusedBy (file_rows f) r → RefusedBy (line_rows f (length old) number) r
  unfolding before
  refused_file r g = let e = file_early f _ _ g.holds in refuses_left g (behind_or (behind_row (omega arith)) (behind_row (omega arith)))

  module _ (facts : Facts f) where
    pass_file : Passes (file_rows f)
    pass_file = facts_pass f facts

    -- row 9
    pub refused_room : length old < most_line → Refuses (line_rows f (length old) number) 9 0
    unfolding before
    refused_room h = refuses_right pass_file (refuses_left (refuses_row 9 0 (h, refl)) (behind_row (omega arith)))

    module _ (s : Table) (d : TableOf f s) (room : most_line ≤ length old) where
      abbrev grid : Grid
      grid = table_grid s.runs s.tracks s.connections

      tracks_are : s.tracks ≡ T (job_of f)
      tracks_are = d.t_is ∙ (job_numbers f).t_is

      connections_are : s.connections ≡ M (job_of f)
      connections_are = d.m_is ∙ (job_numbers f).m_is

      clauses-same : clauses_of grid ≡ clauses (job_of f)
      clauses-same = (λ z. clauses_of (table_grid s.runs (tracks_are z) (connections_are z))) ∙ tabled_clauses (job_of f) s.runs d.runs

      count_same : length (clauses_of grid) ≡ length (clauses (job_of f))
      count_same = ap length clauses-same

      -- the line, or row 10
      pub answered : Bytes f → (r : Result ℕ Refusal) (new : List ℕ) → Lined grid number old r new → WritesLine f number old r new
      answered bytes (Ok c) new h =
          let e = count_same in
          let l = h.0 in
          record {
            job = job_of f;
            of_file = facts_file f facts bytes;
            room = room;
            counted = omega arith;
            wrote = subst (λ x. Wrote old 0 x new c) (text_same grid (grid_of (job_of f)) tracks_are connections_are clauses-same number) h.1;
          }
      answered bytes (Err r) new h =
          let e = count_same in
          let l = h.1.0 in
          (rw (h.0.0, h.0.1) (refuses_right pass_file (refuses_right (passes_row 9 (λ q z. let y = z.0 in omega arith)) (refuses_row 10 0 (omega arith, refl)))), h.1.1)
