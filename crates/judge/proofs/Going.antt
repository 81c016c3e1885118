-- The walk over the labels: where it stands, one step of it, and the ways out. The marks are those of the labels passed, which are a legal partial routing. Assumes nothing.
use mathlib.Core.Path.{◌≡◌, refl, sym, ap, ◌∙◌}
use mathlib.Core.Bool.{Bool, true, false}
use mathlib.Core.List.{List}
use Prim.Native.Nat.{ℕ, ◌+◌, ◌≤◌, ◌<◌}
use native.Mathlib.Omega.{arith}
use lib.ListN.{length, get_or, take, replicate}
use lib.Seq.{length-take-le}
use Rattle.facts.proofs.Bools.{never}
use Rattle.std.specs.Prelude.{Some, None}
use Rattle.refusals.specs.Table.{Searched}
use Rattle.channel.specs.Channel.{track_at, connection_at, T, M}
use Rattle.channel.specs.Valid.{Valid}
use Rattle.channel.specs.Routing.{routings_by, routings}
use Rattle.jobfile.specs.Rows.{t_of, m_of, k_of, job_of}
use Rattle.jobfile.specs.Facts.{Facts}
use Rattle.jobfile.proofs.Decode.{job_valid}
use Rattle.jobfile.proofs.Exact.{job_numbers}
use Rattle.occupancy.specs.Runs.{Cell, owner_at, Owners}
use Rattle.occupancy.proofs.Owners.{owners_by}
use Rattle.marks.specs.Marking.{mark_bytes, fits_run, taken_run, Among}
use Rattle.marks.proofs.Laws.{run_open}
use Rattle.marks.proofs.Kept.{Kept, kept-nil, among, run_ok, run_next}
use Rattle.judge.specs.Judges.{LabelKept, RoutingKept}
use Rattle.judge.proofs.Laws.{kept_fits, legal-kept, take_next}

-- the first i labels are passed, and these are the marks of their connections
pub record Going (f q marks : List ℕ) (i : ℕ) : Type 0 where
  pub facts : Facts f
  pub many : length q ≡ m_of f
  pub within : i ≤ length q
  pub kept : Kept (job_of f) (owner_at (job_of f)) (take i q) (i, marks)

pub going_first : (f q : List ℕ) → Facts f → length q ≡ m_of f → Going f q (replicate mark_bytes 0) 0
going_first f q g e = record { facts = g; many = e; within = omega arith; kept = kept-nil (job_of f) (owner_at (job_of f)) }

-- connection i + 1 is asked: its label is one of 1 to T
pub record Asked (f q marks : List ℕ) (i : ℕ) : Type 0 where
  pub going : Going f q marks i
  pub inside : i < length q
  pub low : 1 ≤ get_or q i 0
  pub high : get_or q i 0 ≤ t_of f

module _ {f q marks : List ℕ} {i : ℕ} (g : Going f q marks i) where
  t_is : T (job_of f) ≡ t_of f
  t_is = sym (job_numbers f).t_is

  passed : (x : ℕ) → x < i → RoutingKept f q x
  passed x l m = legal-kept (job_of f) q i g.within g.kept.legal x l

  -- a label that is not kept ends the walk
  breaks : i < length q → (LabelKept (job_of f) q i → ⊥) → Searched (RoutingKept f q) (Some (i + 1))
  breaks h n = record { index = i; counted = refl; broken = λ k. n (k (let e = g.many in omega arith)); kept = passed }

  pub going_low : i < length q → get_or q i 0 < 1 → Searched (RoutingKept f q) (Some (i + 1))
  going_low h l = breaks h (λ k. omega (arith, k.label.0))

  pub going_high : i < length q → t_of f < get_or q i 0 → Searched (RoutingKept f q) (Some (i + 1))
  going_high h l = breaks h (λ k. omega (arith, k.label.1, (job_numbers f).t_is))

  -- all are passed
  pub going_last : length q ≤ i → Searched (RoutingKept f q) None
  going_last h = λ x l. passed x (omega (arith, g.many, g.within)) l

module _ {f q marks : List ℕ} {i : ℕ} (k : Asked f q marks i) where
  g : Going f q marks i
  g = k.going

  short : length (take i q) < M (job_of f)
  short = omega (arith, length-take-le i q g.within, g.many, k.inside, (job_numbers f).m_is)

  valid : Valid (job_of f)
  valid = job_valid f g.facts

  owned : Owners (job_of f) (owner_at (job_of f))
  owned = owners_by (job_of f) valid (owner_at (job_of f)) (λ i l. refl)

  labelled : get_or q i 0 ≤ T (job_of f)
  labelled = omega (arith, k.high, t_is g)

  -- the connection is one of the file's
  pub asked_connection : i < m_of f
  asked_connection = omega (arith, g.many, k.inside)

  -- the cell that was read for it
  module _ {a e : ℕ} (cell : Cell (k_of f) (track_at (job_of f).tracks (get_or q i 0)) (connection_at (job_of f).connections i) a e) where
    -- the test by marks is that of the routings
    test : fits_run (owner_at (job_of f) i) marks (get_or q i 0) a e ≡ (routings (job_of f)).ok (take i q) (get_or q i 0)
    test = run_ok (job_of f) valid (owner_at (job_of f)) owned (take i q) (i, marks) (get_or q i 0) a e g.kept short k.low labelled cell

    pub asked_among : Among (get_or q i 0) a e
    asked_among = among (job_of f) valid i (get_or q i 0) a e k.low labelled cell

    -- what `fits_run` answered, where the code asks `!fits_run`
    module _ {o : ℕ} {r : Bool} (by : o ≡ owner_at (job_of f) i) (told : r ≡ fits_run o marks (get_or q i 0) a e) where
      answer : r ≡ fits_run (owner_at (job_of f) i) marks (get_or q i 0) a e
      answer = told ∙ ap (λ (x : ℕ). fits_run x marks (get_or q i 0) a e) by

      pub asked_shut : r ≡ false → Searched (RoutingKept f q) (Some (i + 1))
      asked_shut s = breaks g k.inside (λ h. let y = sym (kept_fits (job_of f) q i k.inside h) ∙ sym test ∙ sym answer ∙ s in never cc)

      fits : r ≡ true → fits_run (owner_at (job_of f) i) marks (get_or q i 0) a e ≡ true
      fits s = sym answer ∙ s

      pub asked_open : r ≡ true → a ≤ e
      asked_open s = run_open (owner_at (job_of f) i) marks (get_or q i 0) a e (fits s)

      pub asked_on : r ≡ true → (next : List ℕ) → next ≡ taken_run o marks (get_or q i 0) a e → Going f q next (i + 1)
      unfolding routings_by
      asked_on s next n =
          record {
            facts = g.facts;
            many = g.many;
            within = omega (arith, k.inside);
            kept = rw (n, by, ← take_next (job_of f) q i k.inside) (run_next (job_of f) valid (owner_at (job_of f)) owned (take i q) (i, marks) (get_or q i 0) a e g.kept short k.low labelled cell (fits s));
          }
