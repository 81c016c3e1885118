-- The search by marks is the search by routings: a mark tells whether its segment is occupied, and who owns it. Assumes nothing.
use mathlib.Core.Path.{◌≡◌, refl, sym, ap, subst, ◌∙◌}
use mathlib.Core.Bool.{Bool, true, false, ◌&&◌, not}
use mathlib.Core.Logic.{⊎_elim}
use mathlib.Core.List.{List, [], ◌∷◌, ◌++◌}
use Prim.Native.Nat.{ℕ, zero, suc, ◌+◌, ◌-◌, ◌≤◌, ◌<◌}
use native.Mathlib.Nat.{not-suc-le-zero}
use native.Mathlib.Omega.{arith}
use lib.Dec.{eqb, leb, ltb}
use lib.ListN.{length, get_or, length-append, replicate, get_or-append}
use lib.Seq.{get_or-append_seam}
use borrow.Author.Tests.{eqb-true, eqb-false, eq-eqb, not-true, le-ltb, leb-true, le-leb}
use Rattle.facts.proofs.Bools.{both, iff, whether, not-both, and_left, and_right, and_both, false-by}
use Rattle.facts.proofs.Lists.{zeros}
use Rattle.search.specs.Tree.{place}
use Rattle.search.proofs.Same.{same_place}
use Rattle.channel.specs.Limits.{most_segments}
use Rattle.channel.specs.Channel.{Job, pieces, segments, occupied, share, track_at, connection_at, T, M, Barred, Collide}
use Rattle.channel.specs.Valid.{Valid}
use Rattle.channel.specs.Routing.{routings_by, Legal, clash, routings}
use Rattle.channel.proofs.Any.{any_at, any_some}
use Rattle.channel.proofs.Nets.{collide_apart, collide-pieces, collide_say}
use Rattle.channel.proofs.Says.{snoc, apart_says, apart_is, nil-legal, more}
use Rattle.channel.proofs.Validity.{each_at}
use Rattle.occupancy.specs.Runs.{Run, Cell, owner_in, Owners, Tabled}
use Rattle.marks.specs.Marking.{mark_bytes, base, free, all_free, fill, fits_run, taken_run, Among, first, last, Inside, fits_in, taken_in, marking}
use Rattle.marks.proofs.Laws.{free_says, free_own, all_free_says, all_free_is, fill-length, fill_off, fill-at, run_open}

-- connection h + 1 on the track labelled l occupies segment k + 1
abbrev pub takes : Job → ℕ → ℕ → ℕ → Bool
takes j h l k = occupied (track_at j.tracks l) (connection_at j.connections h) k

abbrev cuts : Job → ℕ → ℕ
cuts j l = segments (track_at j.tracks l)

-- the mark m is right for segment k + 1 of the track labelled l, beside the partial routing p: it is the owner of all connections of p that occupy the
-- segment, and unless it is 0 there is one
pub record Owned (j : Job) (owner : ℕ → ℕ) (p : List ℕ) (l k m : ℕ) : Type 0 where
  pub all : (h : ℕ) → h < length p → get_or p h 0 ≡ l → takes j h l k ≡ true → owner h ≡ m
  pub some : (m ≡ 0 → ⊥) → (h : ℕ) × (h < length p) × (get_or p h 0 ≡ l) × (takes j h l k ≡ true)

-- the state is that of the legal partial routing p
pub record Kept (j : Job) (owner : ℕ → ℕ) (p : List ℕ) (s : ℕ × List ℕ) : Type 0 where
  pub placed : s.0 ≡ length p
  pub long : length s.1 ≡ mark_bytes
  pub legal : Legal j p
  pub marks : (l k : ℕ) → 1 ≤ l → l ≤ T j → k < segments (track_at j.tracks l) → Owned j owner p l k (get_or s.1 (base l + k) 0)

-- what collides, by segments
module _ (j : Job) (h i l : ℕ) where
  abbrev together : Bool
  together = pieces (connection_at j.connections h) (connection_at j.connections i)

  -- who are apart and yet occupy one segment are pieces of one net
  apart_at : (k : ℕ) → Collide j h i l ≡ false → k < cuts j l → takes j h l k ≡ true → takes j i l k ≡ true → together ≡ true
  unfolding share
  apart_at k e n a b = collide_say _ _ (track_at j.tracks l) e (any_at _ _ k n (and_both a b))

  apart_by : ((k : ℕ) → k < cuts j l → takes j h l k ≡ true → takes j i l k ≡ true → together ≡ true) → Collide j h i l ≡ false
  unfolding share
  apart_by f =
      whether together (collide-pieces _ _ (track_at j.tracks l))
      (λ n. collide_apart _ _ (track_at j.tracks l) (false-by (λ e. let s = any_some _ _ e in let y = both (takes j h l s.0) _ s.2 in not-both (f s.0 s.1 y.0 y.1) n)))

-- the state at first
pub kept-nil : (j : Job) (owner : ℕ → ℕ) → Kept j owner [] (0, replicate mark_bytes 0)
kept-nil j owner = record { placed = refl; long = refl; legal = nil-legal j; marks = λ l k a b n. record { all = λ h w. absurd (not-suc-le-zero w); some = λ z. absurd (z (zeros mark_bytes (base l + k))) } }

module _ (j : Job) (v : Valid j) where
  few : (l : ℕ) → 1 ≤ l → l ≤ T j → segments (track_at j.tracks l) ≤ most_segments
  unfolding track_at
  few l a b = (each_at _ j.tracks _ v.tracks (l - 1) (omega arith)).few

  -- the cell of connection i + 1 on the track labelled l
  module _ (i l x y : ℕ) (lo : 1 ≤ l) (hi : l ≤ T j) (c : Cell j.limit (track_at j.tracks l) (connection_at j.connections i) x y) where
    -- a cell that is not shut is a run
    run : x ≤ y → Run (track_at j.tracks l) (connection_at j.connections i) x y
    run q = c.run (c.shut ∙ le-ltb y x q)

    pub among : Among l x y
    among = record { label_low = lo; label_high = (let g = v.limits.t_high in omega arith); short = λ q. (let r = (run q).inside in let w = few l lo hi in omega arith) }

  -- a state, and the cell of the next connection on the track labelled l
  module _ (owner : ℕ → ℕ) (os : Owners j owner) (p : List ℕ) (s : ℕ × List ℕ) (l x y : ℕ) (k : Kept j owner p s) (m : length p < M j) (a : 1 ≤ l) (b : l ≤ T j) (c : Cell j.limit (track_at j.tracks l) (connection_at j.connections s.0) x y) where
    -- a segment that is free for the next connection: who else is on it has the same owner
    own_too : (h g : ℕ) → h < length p → get_or p h 0 ≡ l → g < cuts j l → takes j h l g ≡ true → free (owner s.0) (get_or s.1 (base l + g) 0) ≡ true → owner h ≡ owner s.0
    own_too h g n w t u e =
        let o = (k.marks l g a b t).all h n w u in
        ⊎_elim
        (λ (z : get_or s.1 (base l + g) 0 ≡ 0). absurd (omega (arith, o, os.some h (omega arith))))
        (λ (z : get_or s.1 (base l + g) 0 ≡ owner s.0). o ∙ z)
        (free_says (owner s.0) _ e)

    -- a segment of the run, when all of it is free
    free_in : all_free (owner s.0) s.1 (base l + x) (y + 1 - x) ≡ true → (g : ℕ) → x ≤ g → g ≤ y → free (owner s.0) (get_or s.1 (base l + g) 0) ≡ true
    free_in e g lo hi =
        let d : base l + x + (g - x) ≡ base l + g = omega arith in
        ap (λ (z : ℕ). free (owner s.0) (get_or s.1 z 0)) (sym d) ∙ all_free_says (owner s.0) s.1 (base l + x) (y + 1 - x) e (g - x) (omega arith)

    -- the marks' test is that of the routings
    pub run_ok : fits_run (owner s.0) s.1 l x y ≡ (routings j).ok p l
    unfolding fits_run routings_by
    run_ok =
        let at = k.placed in
        (λ i. not (sym c.shut i) && all_free (owner s.0) s.1 (base l + x) (y + 1 - x))
        ∙ go (Barred j s.0 l) refl
        ∙ (λ i. not (Barred j (at i) l) && not (clash j (at i) l 0 p))
      where
        free_of : (Barred j s.0 l ≡ false) → all_free (owner s.0) s.1 (base l + x) (y + 1 - x) ≡ true → clash j s.0 l 0 p ≡ false
        free_of o e =
            let at = k.placed in
            let r = c.run o in
            apart_is j s.0 l 0 p (λ h n w.
            let z : 0 + h ≡ h = omega arith in
            ap (λ (x : ℕ). Collide j x s.0 l) z ∙ apart_by j h s.0 l (λ g t u q.
            let f = sym (r.is g t) ∙ q in
            let fr = free_in e g (leb-true x g (and_left (leb x g) _ f)) (leb-true g y (and_right (leb x g) _ f)) in
            sym (os.same h s.0 (omega arith) (omega arith)) ∙ eq-eqb _ _ (own_too h g n w t u fr)))

        of-clash : (Barred j s.0 l ≡ false) → clash j s.0 l 0 p ≡ false → all_free (owner s.0) s.1 (base l + x) (y + 1 - x) ≡ true
        of-clash o e =
            let r = c.run o in
            let ins = r.inside in
            all_free_is (owner s.0) s.1 (base l + x) (y + 1 - x) (λ d n.
            let g : ℕ = x + d in
            let w : g < cuts j l = omega arith in
            let lo = le-leb x g (omega arith) in
            let hi = le-leb g y (omega arith) in
            let tk = r.is g w ∙ and_both lo hi in
            let q : base l + x + d ≡ base l + g = omega arith in
            ap (λ (x : ℕ). free (owner s.0) (get_or s.1 x 0)) q ∙ mark_free (get_or s.1 (base l + g) 0) g w (k.marks l g a b w) tk e)
          where
            mark_free : (mk g : ℕ) → g < cuts j l → Owned j owner p l g mk → takes j s.0 l g ≡ true → clash j s.0 l 0 p ≡ false → free (owner s.0) mk ≡ true
            mark_free zero g w o tk e = refl
            mark_free (suc mk) g w o tk e =
                let at = k.placed in
                let f = o.some (λ z. omega arith) in
                let h = f.0 in
                let z : h ≡ 0 + h = omega arith in
                let apart = ap (λ (x : ℕ). Collide j x s.0 l) z ∙ apart_says j s.0 l 0 p e h f.1 f.2 in
                let one = os.same h s.0 (let n = f.1 in omega arith) (omega arith) ∙ apart_at j h s.0 l g apart w f.3 tk in
                free_own (owner s.0) (suc mk) (sym (o.all h f.1 f.2 f.3) ∙ eqb-true _ _ one)

        go : (z : Bool) → Barred j s.0 l ≡ z → (not (Barred j s.0 l) && all_free (owner s.0) s.1 (base l + x) (y + 1 - x)) ≡ (not (Barred j s.0 l) && not (clash j s.0 l 0 p))
        go true e = (λ i. not (e i) && all_free (owner s.0) s.1 (base l + x) (y + 1 - x)) ∙ (λ i. not (sym e i) && not (clash j s.0 l 0 p))
        go false e = ap (λ x. not (Barred j s.0 l) && x) (iff (λ f. ap not (free_of e f)) (λ f. of-clash e (not-true _ f)))

    -- the marks when connection s .0 + 1, which fits, is placed on l
    module _ (fit : fits_run (owner s.0) s.1 l x y ≡ true) where
      abbrev after : List ℕ
      after = fill (owner s.0) s.1 (base l + x) (y + 1 - x)

      r : Run (track_at j.tracks l) (connection_at j.connections s.0) x y
      r = run s.0 l x y a b c (run_open (owner s.0) s.1 l x y fit)

      run-free : all_free (owner s.0) s.1 (base l + x) (y + 1 - x) ≡ true
      unfolding fits_run
      run-free = and_right (not (ltb y x)) _ fit

      longer : length (p ++ (l ∷ [])) ≡ length p + 1
      longer = length-append p (l ∷ [])

      -- a mark as it was, of a segment that the new connection does not have
      keep : (u g : ℕ) → Owned j owner p u g (get_or s.1 (base u + g) 0) → (l ≡ u → takes j s.0 u g ≡ false) → (m : ℕ) → m ≡ get_or s.1 (base u + g) 0 → Owned j owner (p ++ (l ∷ [])) u g m
      keep u g was f m e =
          record {
            all = λ h w. snoc (λ h v. v ≡ u → takes j h u g ≡ true → owner h ≡ m) p l (λ h w q t. was.all h w q t ∙ sym e) (λ q t. not-both (ap (λ (x : ℕ). takes j x u g) k.placed ∙ t) (f q)) h w;
            some = λ z. let o = was.some (λ q. z (e ∙ q)) in let n = o.1 in (o.0, (let w = longer in omega arith), get_or-append p (l ∷ []) 0 o.0 o.1 ∙ o.2, o.3);
          }

      -- and the new connection's
      take : (g : ℕ) → g < cuts j l → takes j s.0 l g ≡ true → free (owner s.0) (get_or s.1 (base l + g) 0) ≡ true → (m : ℕ) → m ≡ owner s.0 → Owned j owner (p ++ (l ∷ [])) l g m
      take g n t e m q =
          record {
            all = λ h w. snoc (λ h v. v ≡ l → takes j h l g ≡ true → owner h ≡ m) p l (λ h w z t. own_too h g w z n t e ∙ sym q) (λ z t. ap owner (sym k.placed) ∙ sym q) h w;
            some = λ z. (length p, (let w = longer in omega arith), get_or-append_seam p l [] 0, ap (λ (x : ℕ). takes j x l g) (sym k.placed) ∙ t);
          }

      owned_next : (u g : ℕ) → 1 ≤ u → u ≤ T j → g < cuts j u → Owned j owner (p ++ (l ∷ [])) u g (get_or after (base u + g) 0)
      owned_next u g lo hi n =
          whether (eqb l u)
          (λ e. subst (λ (u : ℕ). Owned j owner (p ++ (l ∷ [])) u g (get_or after (base u + g) 0)) (eqb-true l u e) (same (subst (λ (u : ℕ). g < cuts j u) (sym (eqb-true l u e)) n)))
          (λ e.
          let ne = eqb-false l u e in
          let ins = r.inside in
          let fl = few l a b in
          let fm = few u lo hi in
          keep u g (k.marks u g lo hi n) (λ z. absurd (ne z)) _ (fill_off (owner s.0) s.1 (base l + x) (y + 1 - x) (base u + g) (λ h w z. ne (omega arith))))
        where
          same : g < cuts j l → Owned j owner (p ++ (l ∷ [])) l g (get_or after (base l + g) 0)
          same n =
              whether (takes j s.0 l g)
              (λ t.
              let f = sym (r.is g n) ∙ t in
              let lo = leb-true x g (and_left (leb x g) _ f) in
              let hi = leb-true g y (and_right (leb x g) _ f) in
              let at : base l + g ≡ base l + x + (g - x) = omega arith in
              let lg = k.long in
              let th = v.limits.t_high in
              let ins = r.inside in
              let fl = few l a b in
              take g n t (free_in run-free g lo hi) _ (ap (λ (u : ℕ). get_or after u 0) at ∙ fill-at (owner s.0) s.1 (base l + x) (y + 1 - x) (g - x) (omega arith) (omega arith)))
              (λ t. keep l g (k.marks l g a b n) (λ z. t) _ (fill_off (owner s.0) s.1 (base l + x) (y + 1 - x) (base l + g) (λ h w u.
              let lo = le-leb x g (omega arith) in
              let hi = le-leb g y (omega arith) in
              not-both (r.is g n ∙ and_both lo hi) t)))

      -- the state after it
      pub run_next : Kept j owner ((routings j).next p l) (s.0 + 1, taken_run (owner s.0) s.1 l x y)
      unfolding taken_run routings_by
      run_next =
          let at = k.placed in
          let w = longer in
          record {
            placed = omega arith;
            long = fill-length (owner s.0) s.1 (base l + x) (y + 1 - x) ∙ k.long;
            legal = more j p l k.legal m a b (sym run_ok ∙ fit);
            marks = λ u g t d n. owned_next u g t d n;
          }

  -- the same by the table, which has the cells of all
  module _ (runs : List ℕ) (t : Tabled j runs) where
    cell : (i l : ℕ) → i < M j → 1 ≤ l → l ≤ T j → Cell j.limit (track_at j.tracks l) (connection_at j.connections i) (first runs i l) (last runs i l)
    cell i l h a b =
        let e : l - 1 + 1 ≡ l = omega arith in
        subst (λ (x : ℕ). Cell j.limit (track_at j.tracks x) (connection_at j.connections i) (first runs i l) (last runs i l)) e (t.cells i (l - 1) h (omega arith))

    pub inside : (i l : ℕ) → i < M j → 1 ≤ l → l ≤ T j → Inside runs i l
    inside i l h a b = record { connection = (let x = v.limits.m_high in omega arith); among = among i l (first runs i l) (last runs i l) a b (cell i l h a b) }

    next_cell : (p : List ℕ) (s : ℕ × List ℕ) (l : ℕ) → Kept j (owner_in runs) p s → length p < M j → 1 ≤ l → l ≤ T j → Cell j.limit (track_at j.tracks l) (connection_at j.connections s.0) (first runs s.0 l) (last runs s.0 l)
    next_cell p s l k m a b = let e = k.placed in cell s.0 l (omega arith) a b

    pub kept_ok : (p : List ℕ) (s : ℕ × List ℕ) (l : ℕ) → Kept j (owner_in runs) p s → length p < M j → 1 ≤ l → l ≤ T j → (marking runs (T j)).ok s l ≡ (routings j).ok p l
    unfolding marking fits_in
    kept_ok p s l k m a b = run_ok (owner_in runs) t.owners p s l (first runs s.0 l) (last runs s.0 l) k m a b (next_cell p s l k m a b)

    pub kept_next : (p : List ℕ) (s : ℕ × List ℕ) (l : ℕ) → Kept j (owner_in runs) p s → length p < M j → 1 ≤ l → l ≤ T j → (marking runs (T j)).ok s l ≡ true → Kept j (owner_in runs) ((routings j).next p l) ((marking runs (T j)).next s l)
    unfolding marking fits_in taken_in
    kept_next p s l k m a b e = run_next (owner_in runs) t.owners p s l (first runs s.0 l) (last runs s.0 l) k m a b (next_cell p s l k m a b) e

    -- the search by marks is the search by routings
    pub by_marking : place (marking runs (T j)) (M j) (0, replicate mark_bytes 0) ≡ place (routings j) (M j) []
    unfolding marking routings_by
    by_marking =
        same_place (marking runs (T j)) (routings j) (λ r s p. Kept j (owner_in runs) p s × (length p + r ≡ M j)) refl
        (λ r s p l h a b. let e = h.1 in kept_ok p s l h.0 (omega arith) a b)
        (λ r s p l h a b o. let e = h.1 in let y = length-append p (l ∷ []) in (kept_next p s l h.0 (omega arith) a b o, omega arith))
        (M j) (0, replicate mark_bytes 0) [] (kept-nil j (owner_in runs), omega arith)
