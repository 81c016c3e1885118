-- The rule of a part's table: what the one computed test says at each entry and of each column, and that P1's table passes it. Assumes nothing.
use mathlib.Core.Path.{◌≡◌, refl, ap, sym, subst, ◌∙◌}
use mathlib.Core.Bool.{Bool, true, false, cond}
use mathlib.Core.List.{List, [], ◌∷◌}
use mathlib.Core.Logic.{◌↔◌}
use mathlib.Mathlib.Data.Bool.Basic.{or_inr}
use Prim.Native.Nat.{ℕ, zero, suc, ◌+◌, ◌-◌, ◌≤◌, ◌<◌}
use native.Mathlib.Nat.{add-zero, zero-add}
use native.Mathlib.Omega.{arith}
use native.Mathlib.Decide.{ℕ_discrete}
use lib.Dec.{leb, eqb}
use lib.ListN.{length, get_or, drop, length-drop}
use lib.Seq.{get_or-take, get_or-drop, length-take-le}
use borrow.Author.Tests.{eqb-true, leb-true, eq-eqb}
use Rattle.facts.specs.Same.{same}
use Rattle.facts.proofs.Bools.{and_left, and_right, one_most, not-both}
use Rattle.facts.proofs.Same.{same_true}
use Rattle.channel.specs.Limits.{most_columns, most_tracks, most_segments}
use Rattle.channel.specs.Valid.{Rising}
use Rattle.jobfile.specs.Rows.{tab}
use Rattle.part.specs.Part.{Table, tracks_in, start_of, segments_of, ends_of, tracks_of, columns_that, is_end, track_follows, tracks_follow, follows, Cut, PartRule}
use Rattle.part.specs.P1.{p1, p1_rule, p1_length}

module _ (f : ℕ → Bool) where
  -- each of them is a column that passes
  columns_pass : (k c s : ℕ) → s < length (columns_that f k c) → (c ≤ get_or (columns_that f k c) s 0) × (get_or (columns_that f k c) s 0 < c + k) × (f (get_or (columns_that f k c) s 0) ≡ true)
  unfolding columns_that
  columns_pass zero c s l = absurd (omega arith)
  columns_pass (suc k) c s l = go (λ s l. columns_pass k (suc c) s l) (f c) refl s l
    where
      go : ((s : ℕ) → s < length (columns_that f k (suc c)) → (suc c ≤ get_or (columns_that f k (suc c)) s 0) × (get_or (columns_that f k (suc c)) s 0 < suc c + k) × (f (get_or (columns_that f k (suc c)) s 0) ≡ true))
          → (b : Bool) → f c ≡ b → (s : ℕ) → s < length (cond b (c ∷ columns_that f k (suc c)) (columns_that f k (suc c)))
          → (c ≤ get_or (cond b (c ∷ columns_that f k (suc c)) (columns_that f k (suc c))) s 0) × (get_or (cond b (c ∷ columns_that f k (suc c)) (columns_that f k (suc c))) s 0 < c + suc k) × (f (get_or (cond b (c ∷ columns_that f k (suc c)) (columns_that f k (suc c))) s 0) ≡ true)
      go rest true e zero l = (omega arith, omega arith, e)
      go rest true e (suc s) l = let r = rest s (omega arith) in (omega (arith, r.0), omega (arith, r.1), r.2)
      go rest false e s l = let r = rest s l in (omega (arith, r.0), omega (arith, r.1), r.2)

  -- a column that passes is one of them
  columns_reach : (k c x : ℕ) → c ≤ x → x < c + k → f x ≡ true → (s : ℕ) × (s < length (columns_that f k c)) × (get_or (columns_that f k c) s 0 ≡ x)
  unfolding columns_that
  columns_reach zero c x l m h = absurd (omega arith)
  columns_reach (suc k) c x l m h = go (λ l'. columns_reach k (suc c) x l' (omega arith) h) (f c) refl (ℕ_discrete c x)
    where
      go : (suc c ≤ x → (s : ℕ) × (s < length (columns_that f k (suc c))) × (get_or (columns_that f k (suc c)) s 0 ≡ x))
          → (b : Bool) → f c ≡ b → Dec (c ≡ x) → (s : ℕ) × (s < length (cond b (c ∷ columns_that f k (suc c)) (columns_that f k (suc c)))) × (get_or (cond b (c ∷ columns_that f k (suc c)) (columns_that f k (suc c))) s 0 ≡ x)
      go rest true e (yes q) = (0, omega arith, q)
      go rest true e (no n) = let r = rest (omega arith) in (suc r.0, omega (arith, r.1), r.2)
      go rest false e (yes q) = not-both h (ap f (sym q) ∙ e)
      go rest false e (no n) = rest (omega arith)

  -- they rise to the last of the columns, if that one passes
  columns_rise : (k c prev n : ℕ) → prev < c → c + k ≡ n → f n ≡ true → Rising n prev (columns_that f (suc k) c)
  unfolding columns_that Rising
  columns_rise zero c prev n l e h =
      let q : f c ≡ true = ap f (omega arith) ∙ h in
      subst (λ b. Rising n prev (cond b (c ∷ []) [])) (sym q) (l, omega arith)
  columns_rise (suc k) c prev n l e h = go (λ prev' l'. columns_rise k (suc c) prev' n l' (omega arith) h) (f c) refl
    where
      go : ((prev' : ℕ) → prev' < suc c → Rising n prev' (columns_that f (suc k) (suc c))) → (b : Bool) → f c ≡ b → Rising n prev (cond b (c ∷ columns_that f (suc k) (suc c)) (columns_that f (suc k) (suc c)))
      go rest true q = (l, rest c (omega arith))
      go rest false q = rest prev (omega arith)

-- a track's right ends, as many as its segments
pub track_long : (b : Table) (t : ℕ) → start_of b (t + 1) ≤ length b.ends → length (ends_of b t) ≡ segments_of b t
track_long b t l = length-take-le (segments_of b t) (drop (start_of b t) b.ends) (rw length-drop (omega arith))

rising_some : (n : ℕ) (es : List ℕ) → 1 ≤ n → Rising n 0 es → 1 ≤ length es
unfolding Rising
rising_some n [] h r = absurd (omega arith)
rising_some n (e ∷ es) h r = omega arith

module _ (n : ℕ) (rule : ℕ → ℕ → Bool) (b : Table) where
  each_follows : (k t : ℕ) → tracks_follow n rule b k t ≡ true → (u : ℕ) → t ≤ u → u < t + k → track_follows n rule b u ≡ true
  unfolding tracks_follow
  each_follows zero t h u l m = absurd (omega arith)
  each_follows (suc k) t h u l m = go (λ l'. each_follows k (suc t) (and_right (track_follows n rule b t) (tracks_follow n rule b k (suc t)) h) u l' (omega arith)) (ℕ_discrete t u)
    where
      go : (suc t ≤ u → track_follows n rule b u ≡ true) → Dec (t ≡ u) → track_follows n rule b u ≡ true
      go rest (yes e) = subst (λ x. track_follows n rule b x ≡ true) e (and_left (track_follows n rule b t) (tracks_follow n rule b k (suc t)) h)
      go rest (no ne) = rest (omega arith)

  ends_follow : (k t m : ℕ) → tracks_follow n rule b k t ≡ true → t + k ≡ m → start_of b m ≡ length b.ends
  unfolding tracks_follow
  ends_follow zero t m h e = let q : m ≡ t = omega arith in ap (start_of b) q ∙ eqb-true (start_of b t) (length b.ends) h
  ends_follow (suc k) t m h e = ends_follow k (suc t) m (and_right (track_follows n rule b t) (tracks_follow n rule b k (suc t)) h) (omega arith)

  module _ (h : follows n rule b ≡ true) where
    starts_first : start_of b 0 ≡ 0
    unfolding follows
    starts_first = eqb-true (start_of b 0) 0 (and_left (eqb (start_of b 0) 0) (tracks_follow n rule b (tracks_in b) 0) h)

    tracks_follow_lem : tracks_follow n rule b (tracks_in b) 0 ≡ true
    unfolding follows
    tracks_follow_lem = and_right (eqb (start_of b 0) 0) (tracks_follow n rule b (tracks_in b) 0) h

    starts_last : start_of b (tracks_in b) ≡ length b.ends
    starts_last = ends_follow (tracks_in b) 0 (tracks_in b) tracks_follow_lem (zero-add (tracks_in b))

    track_follows_lem : (t : ℕ) → t < tracks_in b → track_follows n rule b t ≡ true
    track_follows_lem t l = each_follows (tracks_in b) 0 tracks_follow_lem t (omega arith) (omega arith)

    starts_rise : (t : ℕ) → t < tracks_in b → start_of b t ≤ start_of b (t + 1)
    unfolding track_follows
    starts_rise t l = leb-true (start_of b t) (start_of b (t + 1)) (and_left (leb (start_of b t) (start_of b (t + 1))) _ (track_follows_lem t l))

    segments_few : (t : ℕ) → t < tracks_in b → segments_of b t ≤ most_segments
    unfolding track_follows
    segments_few t l = leb-true (segments_of b t) most_segments (and_left (leb (segments_of b t) most_segments) _ (and_right (leb (start_of b t) (start_of b (t + 1))) _ (track_follows_lem t l)))

    -- the right ends of a track are the columns that the rule names
    pub track_ends : (t : ℕ) → t < tracks_in b → ends_of b t ≡ columns_that (is_end n rule t) n 1
    unfolding track_follows
    track_ends t l = same_true (ends_of b t) _ (and_right (leb (segments_of b t) most_segments) _ (and_right (leb (start_of b t) (start_of b (t + 1))) _ (track_follows_lem t l)))

    rise_by : (d t : ℕ) → t + d ≤ tracks_in b → start_of b t ≤ start_of b (t + d)
    rise_by zero t l = rw add-zero (omega arith)
    rise_by (suc d) t l =
        let a = rise_by d t (omega arith) in
        let c = starts_rise (t + d) (omega arith) in
        let e : t + d + 1 ≡ t + suc d = omega arith in
        let q = ap (start_of b) e in
        omega (arith, a, c, q)

    starts_within : (t : ℕ) → t ≤ tracks_in b → start_of b t ≤ length b.ends
    starts_within t l =
        let e : t + (tracks_in b - t) ≡ tracks_in b = omega arith in
        let a = rise_by (tracks_in b - t) t (omega arith) in
        omega (arith, a, ap (start_of b) e, starts_last)

    long : (t : ℕ) → t < tracks_in b → length (ends_of b t) ≡ segments_of b t
    long t l = track_long b t (starts_within (t + 1) (omega arith))

    -- the lemma at each entry: it is a column of the part that the rule names
    pub entry_rule : (t s : ℕ) → t < tracks_in b → s < segments_of b t
        → (1 ≤ get_or b.ends (start_of b t + s) 0) × (get_or b.ends (start_of b t + s) 0 ≤ n) × (is_end n rule t (get_or b.ends (start_of b t + s) 0) ≡ true)
    entry_rule t s l m =
        let e : get_or (columns_that (is_end n rule t) n 1) s 0 ≡ get_or b.ends (start_of b t + s) 0 =
        ap (λ z. get_or z s 0) (sym (track_ends t l)) ∙ get_or-take (segments_of b t) (drop (start_of b t) b.ends) s 0 m ∙ get_or-drop (start_of b t) b.ends s 0 in
        let r = columns_pass (is_end n rule t) n 1 s (omega (arith, ap length (track_ends t l), long t l)) in
        (omega (arith, r.0), omega (arith, r.1), ap (is_end n rule t) (sym e) ∙ r.2)

    -- and each column that the rule names is an entry
    pub column_entry : (t c : ℕ) → t < tracks_in b → 1 ≤ c → c ≤ n → is_end n rule t c ≡ true → (s : ℕ) × (s < segments_of b t) × (get_or b.ends (start_of b t + s) 0 ≡ c)
    column_entry t c l low high q =
        let r = columns_reach (is_end n rule t) n 1 c low (omega arith) q in
        let m : r.0 < segments_of b t = omega (arith, r.1, ap length (track_ends t l), long t l) in
        (r.0, m, sym (get_or-drop (start_of b t) b.ends r.0 0) ∙ sym (get_or-take (segments_of b t) (drop (start_of b t) b.ends) r.0 0 m) ∙ ap (λ z. get_or z r.0 0) (track_ends t l) ∙ r.2)

    -- so column c is a right end of the track with code t exactly if the rule names it
    pub right_ends : (t : ℕ) → t < tracks_in b → (c : ℕ) → ((s : ℕ) × (s < segments_of b t) × (get_or b.ends (start_of b t + s) 0 ≡ c)) ↔ ((1 ≤ c) × (c ≤ n) × (is_end n rule t c ≡ true))
    right_ends t l c = (λ h. subst (λ z. (1 ≤ z) × (z ≤ n) × (is_end n rule t z ≡ true)) h.2 (entry_rule t h.0 l h.1), λ h. column_entry t c l h.0 h.1 h.2)

    -- the right ends of each track rise to the last column
    pub track_rises : 1 ≤ n → (t : ℕ) → t < tracks_in b → Rising n 0 (ends_of b t)
    unfolding is_end
    track_rises low t l =
        let e : n ≡ suc (n - 1) = omega arith in
        rw (track_ends t l) (subst (λ k. Rising n 0 (columns_that (is_end n rule t) k 1)) (sym e)
        (columns_rise (is_end n rule t) (n - 1) 1 0 n (omega arith) (omega arith) (or_inr (rule t n) _ (eq-eqb n n refl))))

    pub cut_whole : 1 ≤ tracks_in b → tracks_in b ≤ most_tracks → Cut b
    cut_whole some few = record { some = some; few = few; first = starts_first; last = starts_last; rises = starts_rise; within = starts_within; narrow = segments_few }

    pub rule_kept : 1 ≤ n → n ≤ most_columns → 1 ≤ tracks_in b → tracks_in b ≤ most_tracks → PartRule (record { columns = n; table = b })
    rule_kept low high some few = record {
      low = low;
      high = high;
      cut = cut_whole some few;
      tracks = λ t l. record { some = rising_some n (ends_of b t) low (track_rises low t l); few = omega (arith, long t l, segments_few t l); flagged = one_most (leb b.plain t); rises = track_rises low t l };
    }

-- P1's table follows its rule: computed over the whole table
pub p1-follows : follows 30 p1_rule p1.table ≡ true
unfolding follows tracks_follow track_follows same columns_that is_end p1_rule p1_length
p1-follows = refl

pub p1_rule_lem : PartRule p1
p1_rule_lem = rule_kept 30 p1_rule p1.table p1-follows (omega arith) (omega arith) (omega arith) (omega arith)

-- P1's tracks, as document 01 has them
pub p1_tracks : tracks_of p1.table
    ≡ record { flag = 0; ends = 5 ∷ 10 ∷ 15 ∷ 20 ∷ 25 ∷ 30 ∷ [] } ∷ record { flag = 0; ends = 5 ∷ 10 ∷ 15 ∷ 20 ∷ 25 ∷ 30 ∷ [] }
    ∷ record { flag = 0; ends = 5 ∷ 10 ∷ 15 ∷ 20 ∷ 25 ∷ 30 ∷ [] } ∷ record { flag = 0; ends = 5 ∷ 10 ∷ 15 ∷ 20 ∷ 25 ∷ 30 ∷ [] }
    ∷ record { flag = 0; ends = 10 ∷ 20 ∷ 30 ∷ [] } ∷ record { flag = 0; ends = 10 ∷ 20 ∷ 30 ∷ [] }
    ∷ record { flag = 1; ends = 15 ∷ 30 ∷ [] } ∷ record { flag = 1; ends = 15 ∷ 30 ∷ [] } ∷ []
unfolding tab
p1_tracks = refl
