-- What is printed, from what the router answered; and that it is one text with one status. Assumes nothing.
use mathlib.Core.Path.{◌≡◌, refl, sym, ap, subst, ◌∙◌}
use mathlib.Core.List.{List}
use mathlib.Core.Logic.{inl, inr}
use Prim.Native.Nat.{ℕ, ◌≤◌, ◌<◌}
use native.Mathlib.Omega.{arith}
use native.Mathlib.Decide.{dec_lt}
use lib.ListN.{length, take, drop, length-append}
use lib.Seq.{take_at}
use Rattle.std.specs.Prelude.{Ok, Err}
use Rattle.search.specs.Budget.{first, none, undecided}
use Rattle.refusals.specs.declared.Refusal.{Refusal}
use Rattle.refusals.specs.Table.{before, line}
use Rattle.refusals.specs.Refusal.{number_of, RefusedBy}
use Rattle.refusals.proofs.Laws.{decided_one}
use Rattle.text.specs.declared.Writer.{Writer}
use Rattle.text.specs.Text.{Wrote, Puts}
use Rattle.text.proofs.Writing.{◌followed_by◌}
use Rattle.channel.specs.Limits.{most_connections}
use Rattle.channel.specs.Channel.{Job, M}
use Rattle.channel.specs.Verdict.{Decides}
use Rattle.channel.proofs.Budget.{decides_one}
use Rattle.jobfile.specs.Rows.{file_rows, m_of, job_of}
use Rattle.jobfile.specs.Reads.{FileOf}
use Rattle.jobfile.specs.Facts.{Facts}
use Rattle.jobfile.proofs.Exact.{job_is, facts_of, facts_pass, job_numbers, file_sound}
use Rattle.route.specs.declared.Verdict.{Verdict}
use Rattle.route.specs.declared.Verdict.TheVariants.{Routed, Unroutable, Undecided}
use Rattle.route.specs.Routes.{route_rows, Judged, Routes}
use Rattle.rows.specs.Rows.{rows_text}
use Rattle.report.specs.Report.{program_budget, most_input, refused_text, verdict_lines, line_of, status_of, status_told, status_number, Prints, too_long, refused, decided, Printed}
use Rattle.report.specs.Answer.{Written}

-- the labels begin with the first routing, under the budget b, of the job that the bytes tell
pub record Begins (f labels : List ℕ) (b n : ℕ) : Type 0 where
  pub few : m_of f ≤ length labels
  pub long : length (take (m_of f) labels) ≡ M (job_of f)
  pub decides : Decides (job_of f) b (first (take (m_of f) labels) n)

pub routed_begins : (f l l' : List ℕ) (b n : ℕ) → Judged (job_of f) b l (Routed n) l' → Begins f l' b n
routed_begins f l l' b n (q, d, e) =
    let w : length q ≡ M (job_of f) = d.0.routing.whole in
    let t : take (m_of f) l' ≡ q = ap (take (m_of f)) e ∙ take_at q (drop (M (job_of f)) l) (m_of f) (w ∙ sym (job_numbers f).m_is) in
    record {
      few = (let x = ap length e ∙ length-append q (drop (M (job_of f)) l) in let m = (job_numbers f).m_is in omega arith);
      long = ap length t ∙ w;
      decides = subst (λ (x : List ℕ). Decides (job_of f) b (first x n)) (sym t) d;
    }

-- and the bytes are that job's file
pub record Found (f labels : List ℕ) (b n : ℕ) : Type 0 where
  pub facts : Facts f
  pub file : FileOf f (job_of f)
  pub begins : Begins f labels b n

module _ (f l l' : List ℕ) (b : ℕ) where
  pub routed_found : (n : ℕ) → Routes f b l (Ok (Routed n)) l' → Found f l' b n
  routed_found n (p, (j, g, d)) =
      let s : j ≡ job_of f = job_is f j g in
      record { facts = facts_of f j g; file = subst (FileOf f) s g; begins = routed_begins f l l' b n (subst (λ (x : Job). Judged x b l (Routed n) l') s d) }

  -- with room for the most labels a file is refused by its own rows
  pub refused_file : (r : Refusal) → length l ≡ most_connections → Routes f b l (Err r) l' → RefusedBy (file_rows f) r
  unfolding before
  refused_file r e g = record { holds = own (number_of r.reason) r.place g.0.first g.0.holds; first = λ x p h. g.0.first x p (inl h) }
    where
      own : (num place : ℕ) → ((x p : ℕ) → route_rows f (length l) x p → line num ≤ line x) → route_rows f (length l) num place → file_rows f num place
      own num place least (inl h) = h
      own num place least (inr h) = go (dec_lt (length f) 8)
        where
          z : line num ≡ line 9
          z = ap line h.0

          -- row 9 holds only where a row before it does
          go : Dec (length f < 8) → file_rows f num place
          go (yes s) = absurd (omega (arith, z, least 1 0 (inl (inl (refl, (s, refl))))))
          go (no s) = absurd (omega (arith, z, least 2 0 (inl (inr (inl (refl, (λ k. omega (arith, k.m_high, h.1.0), refl)))))))

-- the ways out with a verdict: the lines of a routing, or the verdict alone
module _ {f : List ℕ} {old new : Writer} (g : FileOf f (job_of f)) (h : length f ≤ most_input) (room : new.at ≤ length new.buf.now) where
  pub written_routed : {mid : Writer} (n : ℕ) (labels : List ℕ) → Begins f labels program_budget n → Puts old (line_of (Routed n)) mid → Puts mid (rows_text (job_of f) (take (m_of f) labels) (length (take (m_of f) labels))) new → Written f old 0 new
  written_routed {mid} n labels t v w =
      let q : List ℕ = take (m_of f) labels in
      record { text = verdict_lines (job_of f) (first q n); prints = decided (job_of f) (first q n) h g t.decides; puts = v followed_by subst (λ (m : ℕ). Puts mid (rows_text (job_of f) q m) new) t.long w; fits = room }

  pub written_alone : (v : Verdict) (l l' : List ℕ) → ((n : ℕ) → v ≡ Routed n → ⊥) → Judged (job_of f) program_budget l v l' → Puts old (line_of v) new → Written f old (status_number (status_told v)) new
  written_alone (Routed n) l l' e d w = absurd (e n refl)
  written_alone (Unroutable n) l l' e d w = record { text = verdict_lines (job_of f) (none n); prints = decided (job_of f) (none n) h g d.0; puts = w; fits = room }
  written_alone (Undecided n) l l' e d w = record { text = verdict_lines (job_of f) (undecided n); prints = decided (job_of f) (undecided n) h g d.0; puts = w; fits = room }

-- any two texts that may be printed are equal, and so are their statuses
module _ (f : List ℕ) where
  pub prints_one : (t u : List ℕ) (s v : ℕ) → Prints f t s → Prints f u v → (t ≡ u) × (s ≡ v)
  prints_one t u s v (too_long h) (too_long k) = (refl, refl)
  prints_one t u s v (too_long h) (refused num place k r) = absurd (omega arith)
  prints_one t u s v (too_long h) (decided j o k g d) = absurd (omega arith)
  prints_one t u s v (refused num place h r) (too_long k) = absurd (omega arith)
  prints_one t u s v (refused num place h r) (refused num' place' k w) = let e = decided_one (file_sound f) r w in (λ i. refused_text (e.0 i) (e.1 i), refl)
  prints_one t u s v (refused num place h r) (decided j o k g d) = absurd (facts_pass f (facts_of f j g) num place r.holds)
  prints_one t u s v (decided j o h g d) (too_long k) = absurd (omega arith)
  prints_one t u s v (decided j o h g d) (refused num place k r) = absurd (facts_pass f (facts_of f j g) num place r.holds)
  prints_one t u s v (decided j o h g d) (decided j' o' k g' d') =
      let a : j ≡ j' = job_is f j g ∙ sym (job_is f j' g') in
      let e : o ≡ o' = decides_one j program_budget o o' d (subst (λ (x : Job). Decides x program_budget o') (sym a) d') in
      (λ i. verdict_lines (a i) (e i), ap status_of e)

  pub printed-one : (old new new' : List ℕ) (r r' s s' : ℕ) → Printed f old new r s → Printed f old new' r' s' → (r ≡ r') × (s ≡ s') × (new ≡ new')
  printed-one old new new' r r' s s' p q =
      let e = prints_one p.text q.text s s' p.prints q.prints in
      let w = subst (λ (t : List ℕ). Wrote old 0 t new r) e.0 p.wrote in
      (w.next ∙ sym q.wrote.next, e.1, w.is ∙ sym q.wrote.is)
