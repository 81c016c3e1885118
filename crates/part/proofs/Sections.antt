-- The sections of a part's file: one record more, and how long they are. Assumes nothing.
use mathlib.Core.Path.{◌≡◌, refl, ap, sym, subst, ◌∙◌}
use mathlib.Core.List.{List, [], ◌++◌, append_assoc, append-nil}
use Prim.Native.Nat.{ℕ, zero, suc, ◌+◌, ◌*◌, ◌≤◌}
use native.Mathlib.Nat.{add-zero, zero-add}
use native.Mathlib.Numerals.{add-one}
use native.Mathlib.Omega.{arith}
use lib.ListN.{length, take, drop, length-append}
use lib.Seq.{take-add, take-length}
use Rattle.text.specs.declared.Writer.{Writer}
use Rattle.text.specs.Text.{Puts}
use Rattle.text.proofs.Writing.{◌followed_by◌}
use Rattle.channel.specs.Limits.{most_tracks, most_segments}
use Rattle.channel.specs.Channel.{Connection}
use Rattle.jobfile.specs.File.{track_bytes, connection_bytes, joined, trailer_bytes, encode}
use Rattle.jobfile.specs.Rows.{tab, connection_read}
use Rattle.jobfile.proofs.Decode.{tab-length, byte}
use Rattle.part.specs.Part.{Table, tracks_in, start_of, ends_of, flag_of, track_of, tracks_of, Cut, Part, PartRule}
use Rattle.part.specs.Writes.{count_of, connections_of, file_of}
use Rattle.part.proofs.Table.{track_long}

module _ {A : Type 0} (f : A → List ℕ) (g : ℕ → A) where
  all_last : (k i : ℕ) → joined f (tab g (suc k) i) ≡ joined f (tab g k i) ++ f (g (i + k))
  unfolding joined tab
  all_last zero i = append-nil (f (g i)) ∙ ap (λ z. f (g z)) (sym (add-zero i))
  all_last (suc k) i =
      let e : suc i + k ≡ i + suc k = omega arith in
      ap (λ z. f (g i) ++ z) (all_last k (suc i)) ∙ sym (append_assoc (f (g i)) (joined f (tab g k (suc i))) (f (g (suc i + k)))) ∙ ap (λ z. (f (g i) ++ joined f (tab g k (suc i))) ++ f (g z)) e

  -- the bytes of one more
  pub all_more : (t : ℕ) → joined f (tab g (t + 1) 0) ≡ joined f (tab g t 0) ++ f (g t)
  all_more t = ap (λ z. joined f (tab g z 0)) (add-one t) ∙ all_last t 0 ∙ ap (λ z. joined f (tab g t 0) ++ f (g z)) (zero-add t)

  pub all_none : joined f (tab g 0 0) ≡ []
  unfolding joined tab
  all_none = refl

module _ (b : Table) (cut : Cut b) where
  -- how long the records of the first t tracks are
  pub records_long : (t : ℕ) → t ≤ tracks_in b → length (joined track_bytes (tab (track_of b) t 0)) ≡ 2 * t + start_of b t
  records_long zero l = ap length (all_none track_bytes (track_of b)) ∙ sym (omega (arith, cut.first))
  records_long (suc t) l =
      let e = ap (λ z. length (joined track_bytes (tab (track_of b) z 0))) (add-one t) in
      let m = ap length (all_more track_bytes (track_of b) t) in
      let a = length-append (joined track_bytes (tab (track_of b) t 0)) (track_bytes (track_of b t)) in
      let s = ap (start_of b) (add-one t) in
      omega (arith, e, m, a, s, records_long t (omega arith), track_long b t (cut.within (t + 1) (omega arith)), cut.rises t (omega arith))

  pub section_long : length (joined track_bytes (tab (track_of b) (tracks_in b) 0)) ≡ 2 * tracks_in b + length b.ends
  section_long = records_long (tracks_in b) (omega arith) ∙ ap (λ z. 2 * tracks_in b + z) cut.last

  -- one record more is written
  pub puts_record : {old buf new : Writer} {flag : ℕ} (t : ℕ) → flag ≡ flag_of b t → Puts old (joined track_bytes (tab (track_of b) t 0)) buf → Puts buf (track_bytes (record { flag = flag; ends = ends_of b t })) new
      → Puts old (joined track_bytes (tab (track_of b) (t + 1) 0)) new
  puts_record t e w v = rw (all_more track_bytes (track_of b) t, sym e) (w followed_by v)

  starts_few : (t : ℕ) → t ≤ tracks_in b → start_of b t ≤ most_segments * t
  starts_few zero l = omega (arith, cut.first)
  starts_few (suc t) l = let s = ap (start_of b) (add-one t) in omega (arith, starts_few t (omega arith), cut.narrow t (omega arith), cut.rises t (omega arith))

  -- how many right ends there can be
  pub ends_few : length b.ends ≤ most_segments * most_tracks
  ends_few = omega (arith, starts_few (tracks_in b) (omega arith), cut.last, cut.few)

-- the bytes of the connections that bytes tell are those bytes
module _ (f : List ℕ) where
  three : (at : ℕ) → at + 3 ≤ length f → take 3 (drop at f) ≡ connection_bytes (connection_read f at)
  three at l = rw (byte f at (at + 1) (omega arith) refl, byte f (at + 1) (at + 2) (omega arith) (omega arith), byte f (at + 2) (at + 3) (omega arith) (omega arith)) refl

  connections_front : (k : ℕ) → 3 * k ≤ length f → joined connection_bytes (tab (λ i. connection_read f (3 * i)) k 0) ≡ take (3 * k) f
  connections_front zero l = all_none connection_bytes (λ i. connection_read f (3 * i))
  connections_front (suc k) l =
      let g : ℕ → Connection = λ i. connection_read f (3 * i) in
      let e : 3 * k + 3 ≡ 3 * suc k = omega arith in
      ap (λ z. joined connection_bytes (tab g z 0)) (sym (add-one k)) ∙ all_more connection_bytes g k
      ∙ ap (λ z. z ++ connection_bytes (g k)) (connections_front k (omega arith)) ∙ ap (λ z. take (3 * k) f ++ z) (sym (three (3 * k) (omega arith)))
      ∙ sym (take-add (3 * k) 3 f) ∙ ap (λ z. take z f) e

  pub connections_bytes : 3 * count_of f ≡ length f → joined connection_bytes (connections_of f) ≡ f
  connections_bytes e = connections_front (count_of f) (omega arith) ∙ ap (λ z. take z f) e ∙ take-length f

-- the whole file: tracks, connections, trailer
module _ (p : Part) (rule : PartRule p) (bytes : List ℕ) (k : ℕ) (whole : 3 * count_of bytes ≡ length bytes) where
  file-text : file_of p bytes k ≡ (joined track_bytes (tracks_of p.table) ++ bytes) ++ trailer_bytes (length (joined track_bytes (tracks_of p.table)) + length bytes) (length bytes) p.columns (tracks_in p.table) (count_of bytes) k
  unfolding encode
  file-text =
      let e = connections_bytes bytes whole in
      let t = tab-length (track_of p.table) (tracks_in p.table) 0 in
      let m = tab-length (λ i. connection_read bytes (3 * i)) (count_of bytes) 0 in
      let ts : List ℕ = joined track_bytes (tracks_of p.table) in
      (λ i. ts ++ (e i ++ trailer_bytes (length ts + length (e i)) (length (e i)) p.columns (t i) (m i) k)) ∙ sym (append_assoc ts bytes _)

  -- how long it is
  pub file_long : length (file_of p bytes k) ≡ 2 * tracks_in p.table + length p.table.ends + length bytes + 8
  file_long =
      let ts : List ℕ = joined track_bytes (tracks_of p.table) in
      let end : List ℕ = trailer_bytes (length ts + length bytes) (length bytes) p.columns (tracks_in p.table) (count_of bytes) k in
      omega (arith, ap length file-text, length-append (ts ++ bytes) end, length-append ts bytes, section_long p.table rule.cut)

  -- it is written, section after section
  pub puts_file : {a b c d : Writer} → a.at ≡ 0 → Puts a (joined track_bytes (tracks_of p.table)) b → Puts b bytes c → Puts c (trailer_bytes c.at (length bytes) p.columns (tracks_in p.table) (count_of bytes) k) d → Puts a (file_of p bytes k) d
  puts_file {a} {c = c} {d = d} first w v x =
      let ts : List ℕ = joined track_bytes (tracks_of p.table) in
      let e : c.at ≡ length ts + length bytes = omega (arith, w.wrote.next, v.wrote.next) in
      rw file-text (w followed_by v followed_by subst (λ z. Puts c (trailer_bytes z (length bytes) p.columns (tracks_in p.table) (count_of bytes) k) d) e x)
