-- Row 8 by the walk: the codes of the marks, walked over the table, find the first clause that the model makes false. Assumes nothing.
use mathlib.Core.Path.{◌≡◌, refl, sym, ap, ◌∙◌}
use mathlib.Core.List.{List}
use Prim.Native.Nat.{ℕ, ◌+◌, ◌*◌, ◌^◌, ◌≤◌, ◌<◌}
use native.Mathlib.Omega.{arith}
use lib.ListN.{length}
use Rattle.std.specs.Prelude.{Result, Ok, Err}
use Rattle.refusals.specs.declared.Reason.TheVariants as reason
use Rattle.dimacs.specs.Decision.{first_false}
use Rattle.channel.specs.declared.Code.{Code}
use Rattle.channel.specs.Limits.{most_codes}
use Rattle.channel.specs.Channel.{Job, T, M}
use Rattle.jobfile.specs.declared.file.Sizes.{Sizes}
use Rattle.jobfile.specs.Rows.{job_of}
use Rattle.jobfile.specs.Facts.{SizesOf}
use Rattle.jobfile.proofs.Exact.{job_numbers}
use Rattle.clauses.specs.Clauses.{Grid, bits_for, clauses_of, clauses, variable_count}
use Rattle.clauses.proofs.Bits.{code_at}
use Rattle.occupancy.specs.declared.runs.Table.{Table}
use Rattle.occupancy.specs.Runs.{TableOf}
use Rattle.places.specs.Places.{places_of, Sized}
use Rattle.places.specs.Table.{table_grid}
use Rattle.places.proofs.Tabled.{tabled_clauses}
use Rattle.model.specs.Codes.{set_in, code_from, code_for, Codes}
use Rattle.model.specs.Walks.{Below, Brings}
use Rattle.model.proofs.Coding.{code_below, code_agrees}
use Rattle.model.proofs.Meaning.{place_of, walk_finds}
use Rattle.reply.specs.Steps.{LabelsPut, Weighs}
use Rattle.reply.proofs.Spelling.{labels-written}

-- a code of w bits is below 2 ^ w
pub codes-below : (marks : List ℕ) (codes : List Code) (t w top m : ℕ) → Sized t w top → Codes marks w m codes → Below (2 ^ bits_for t) m codes
codes-below marks codes t w top m s g i l =
    let b = code_below marks (i * w + 1) w in
    let e = ap (λ k. 2 ^ k) s.bits in
    let a = g.at i l in
    omega arith

pub codes_few : (marks : List ℕ) (codes : List Code) (t w top m : ℕ) → Sized t w top → Codes marks w m codes → Below most_codes m codes
codes_few marks codes t w top m s g i l = let b = codes-below marks codes t w top m s g i l in let a = s.most in let p = s.power in omega arith

-- the number of the job's variables
pub counted : (f : List ℕ) (r : Sizes) (w top m v : ℕ) → SizesOf f r → Sized r.tracks w top → m ≡ r.connections → v ≡ w → m * v ≡ variable_count (job_of f)
counted f r w top m v told s e q = λ z. (e ∙ told.m_is ∙ (job_numbers f).m_is) z * (q ∙ s.bits ∙ ap bits_for (told.t_is ∙ (job_numbers f).t_is)) z

module _ (f marks : List ℕ) (codes : List Code) (s : Table) (w top : ℕ) (size : Sized s.tracks w top) (g : Codes marks w s.connections codes) (d : TableOf f s) where
  abbrev j : Job
  j = job_of f

  abbrev grid : Grid
  grid = table_grid s.runs s.tracks s.connections

  tracks : s.tracks ≡ T j
  tracks = d.t_is ∙ (job_numbers f).t_is

  pub connections : s.connections ≡ M j
  connections = d.m_is ∙ (job_numbers f).m_is

  code : (i : ℕ) → i < s.connections → code_for codes i ≡ code_at (set_in marks) (i * bits_for s.tracks + 1) (bits_for s.tracks)
  code i l = g.at i l ∙ ap (λ k. code_from marks (i * k + 1) k) size.bits ∙ code_agrees marks (i * bits_for s.tracks + 1) (set_in marks) (bits_for s.tracks) (λ u p q. refl)

  same : clauses_of grid ≡ clauses j
  same = (λ z. clauses_of (table_grid s.runs (tracks z) (connections z))) ∙ tabled_clauses j s.runs d.runs

  first_is : (x : Result ℕ ℕ) → Brings codes (places_of grid) x → first_false (set_in marks) 1 (clauses j) ≡ place_of x
  first_is x e = ap (first_false (set_in marks) 1) (sym same) ∙ walk_finds (set_in marks) grid codes code x e

  -- a clause that is false
  pub weighs_false : (p : ℕ) → Brings codes (places_of grid) (Err p) → (l : List ℕ) → Weighs j (set_in marks) l (Err (record { reason = reason.Clause; place = p })) l
  weighs_false p e l = (refl, sym (first_is (Err p) e), (λ z. let h = e.number in absurd (omega arith)), refl)

  -- no clause is
  pub weighs_true : (k : ℕ) → Brings codes (places_of grid) (Ok k) → (l l' : List ℕ) → s.connections ≤ length l → LabelsPut s.connections codes l l' → Weighs j (set_in marks) l (Ok tt) l'
  weighs_true k e l l' r h = (first_is (Ok k) e, labels-written j marks codes w s.connections (size.bits ∙ ap bits_for tracks) connections g l l' r h)
