-- The reader gives the same values back: what the writer wrote is the file of a valid job, with the part's N and T, the connections of the bytes, and K. Assumes nothing.
use mathlib.Core.Path.{◌≡◌, refl, subst, ◌∙◌}
use mathlib.Core.List.{List}
use mathlib.Core.Logic.{inl, inr}
use Prim.Native.Nat.{ℕ, zero, suc, ◌+◌, ◌*◌, ◌≤◌, ◌<◌}
use native.Mathlib.Omega.{arith}
use native.Mathlib.Nat.{zero-add}
use native.Mathlib.Decide.{dec_le, ℕ_discrete}
use lib.ListN.{length, take}
use lib.Seq.{take-append_seam}
use denote.Ref.{Bor}
use Rattle.std.specs.Prelude.{Result, Ok}
use Rattle.facts.proofs.Bools.{sure}
use Rattle.refusals.specs.Table.{Passes}
use Rattle.refusals.specs.declared.Refusal.{Refusal}
use Rattle.text.proofs.Writing.{front}
use Rattle.channel.specs.Valid.{TrackRule, ConnectionRule, Valid}
use Rattle.jobfile.specs.Rows.{connection_read, ConnectionKept}
use Rattle.jobfile.specs.Reads.{Reads, Hands}
use Rattle.jobfile.specs.declared.file.Sizes.{Sizes}
use Rattle.jobfile.proofs.Decode.{tab-length, tab_each}
use Rattle.jobfile.proofs.Exact.{round_trip, hands_job}
use Rattle.part.specs.Part.{Part, tracks_in, track_of, job_of_part, PartRule}
use Rattle.part.specs.P1.{p1}
use Rattle.part.specs.Writes.{count_of, connections_of, Takes, file_of, part_rows, Writes}
use Rattle.part.proofs.Table.{p1_rule_lem}
use Rattle.part.proofs.Sections.{connections_bytes}

-- a fact on numbers that cannot fail holds
sure_takes : (n t size k : ℕ) → ((Takes n t size k → ⊥) → ⊥) → Takes n t size k
sure_takes n t size k h = record {
  whole = sure (ℕ_discrete _ _) (λ f. h (λ g. f g.whole));
  limits = record {
    n_low = sure (dec_le _ _) (λ f. h (λ g. f g.limits.n_low));
    n_high = sure (dec_le _ _) (λ f. h (λ g. f g.limits.n_high));
    t_low = sure (dec_le _ _) (λ f. h (λ g. f g.limits.t_low));
    t_high = sure (dec_le _ _) (λ f. h (λ g. f g.limits.t_high));
    m_high = sure (dec_le _ _) (λ f. h (λ g. f g.limits.m_high));
    k_low = sure (dec_le _ _) (λ f. h (λ g. f g.limits.k_low));
    k_high = sure (dec_le _ _) (λ f. h (λ g. f g.limits.k_high));
  };
}

sure_kept : (f : List ℕ) (n e m i : ℕ) → ((ConnectionKept f n e m i → ⊥) → ⊥) → ConnectionKept f n e m i
sure_kept f n e m i h l = record {
  low = sure (dec_le _ _) (λ x. h (λ g. x (g l).low));
  order = sure (dec_le _ _) (λ x. h (λ g. x (g l).order));
  high = sure (dec_le _ _) (λ x. h (λ g. x (g l).high));
  marked = sure (dec_le _ _) (λ x. h (λ g. x (g l).marked));
}

module _ (p : Part) (bytes : List ℕ) (k : ℕ) (passes : Passes (part_rows p bytes k)) where
  -- where rows 2 and 5 do not hold, the numbers are within their limits and each connection keeps its rule
  pub passes_takes : Takes p.columns (tracks_in p.table) (length bytes) k
  passes_takes = sure_takes _ _ _ _ (λ h. passes 2 0 (inl (refl, (h, refl))))

  kept-below : (i j : ℕ) → j < i → ConnectionKept bytes p.columns 0 (count_of bytes) j
  kept-below zero j l = absurd (omega arith)
  kept-below (suc i) j l = go (kept-below i) (ℕ_discrete i j)
    where
      go : ((j : ℕ) → j < i → ConnectionKept bytes p.columns 0 (count_of bytes) j) → Dec (i ≡ j) → ConnectionKept bytes p.columns 0 (count_of bytes) j
      go ih (yes e) = subst (ConnectionKept bytes p.columns 0 (count_of bytes)) e (sure_kept bytes p.columns 0 (count_of bytes) i (λ h. passes 5 (i + 1) (inr (refl, record { index = i; counted = refl; broken = h; kept = ih }))))
      go ih (no n) = ih j (omega arith)

  pub passes_kept : (i : ℕ) → ConnectionKept bytes p.columns 0 (count_of bytes) i
  passes_kept i = kept-below (suc i) i (omega arith)

  -- and the job is valid
  pub part_valid : PartRule p → Valid (job_of_part p (connections_of bytes) k)
  part_valid rule = record {
    limits = rw (tab-length (track_of p.table) (tracks_in p.table) 0, tab-length (λ i. connection_read bytes (3 * i)) (count_of bytes) 0) passes_takes.limits;
    tracks = tab_each _ (TrackRule p.columns) (tracks_in p.table) 0 (λ j l m. rule.tracks j (omega arith));
    connections = tab_each _ (ConnectionRule p.columns) (count_of bytes) 0 (λ j l m. subst (λ z. ConnectionRule p.columns (connection_read bytes z)) (zero-add (3 * j)) (passes_kept j (omega arith)));
  }

module _ (p : Part) (rule : PartRule p) (bytes : List ℕ) (k : ℕ) (old new : List ℕ) (size : ℕ) (w : Writes p bytes k old (Ok size) new) where
  part_passes : Passes (part_rows p bytes k)
  part_passes x q g = w.0 x q (inl g)

  -- the file fits the buffer
  pub file-room : length (file_of p bytes k) ≤ length old
  file-room = sure (dec_le _ _) (λ h. w.0 9 0 (inr (refl, (omega arith, refl))))

  -- what stands in front of the buffer is the file
  pub written-file : take size new ≡ file_of p bytes k
  written-file =
      let n = file-room in
      let e : size ≡ length (file_of p bytes k) = w.1.next ∙ zero-add (length (file_of p bytes k)) in
      (λ i. take (e i) (front n w.1 i)) ∙ take-append_seam (file_of p bytes k) _

  pub reads_back : (r : Result Sizes Refusal) → Reads (take size new) r → r ≡ Ok (record { columns = p.columns; tracks = tracks_in p.table; connections = count_of bytes; limit = k })
  reads_back r g =
      let v = part_valid p bytes k part_passes rule in
      let t = tab-length (track_of p.table) (tracks_in p.table) 0 in
      let m = tab-length (λ i. connection_read bytes (3 * i)) (count_of bytes) 0 in
      round_trip (job_of_part p (connections_of bytes) k) v r (subst (λ f. Reads f r) written-file g) ∙ (λ i. Ok (record { columns = p.columns; tracks = t i; connections = m i; limit = k }))

  -- and the part of it that holds the connections is the bytes that were given
  pub hands_back : (f part : Bor (List ℕ)) → f.now ≡ take size new → Hands f part → part.now ≡ bytes
  hands_back f part e h = hands_job f part h (job_of_part p (connections_of bytes) k) (record { valid = part_valid p bytes k part_passes rule; file = e ∙ written-file }) ∙ connections_bytes bytes (passes_takes p bytes k part_passes).whole

-- of P1: N = 30, T = 8
pub p1_back : (bytes : List ℕ) (k : ℕ) (old new : List ℕ) (size : ℕ) → Writes p1 bytes k old (Ok size) new → (r : Result Sizes Refusal) → Reads (take size new) r → r ≡ Ok (record { columns = 30; tracks = 8; connections = count_of bytes; limit = k })
p1_back bytes k old new size w = reads_back p1 p1_rule_lem bytes k old new size w

pub p1_connections_back : (bytes : List ℕ) (k : ℕ) (old new : List ℕ) (size : ℕ) → Writes p1 bytes k old (Ok size) new → (f part : Bor (List ℕ)) → f.now ≡ take size new → Hands f part → part.now ≡ bytes
p1_connections_back bytes k old new size w = hands_back p1 p1_rule_lem bytes k old new size w
