-- Why a red column is never a false alarm: distinct nets over one column need distinct tracks, since on one track they would share the segment that holds the
-- column. The connections that the load counts are listed, and the pigeonhole law does the rest. Assumes nothing.
use mathlib.Core.Path.{◌≡◌, refl, sym, subst, ◌∙◌}
use mathlib.Core.Bool.{Bool, true, false, ◌&&◌}
use mathlib.Core.Logic.{⊎_elim}
use mathlib.Core.List.{List, [], ◌∷◌}
use Prim.Native.Nat.{ℕ, zero, suc, ◌+◌, ◌-◌, ◌≤◌, ◌<◌}
use native.Mathlib.Omega.{arith}
use lib.ListN.{length, get_or}
use borrow.Author.Tests.{le-leb, not-true}
use Rattle.facts.specs.Odd.{bit_of}
use Rattle.facts.proofs.Bools.{neither, below, not-both, and_left, and_right, and_both, false-by}
use Rattle.facts.proofs.Pigeons.{pigeons}
use Rattle.channel.specs.Channel.{Track, Connection, Job, pieces, segments, left_end, occupied, share, track_at, connection_at, T}
use Rattle.channel.specs.Valid.{Rising, TrackRule, Valid}
use Rattle.channel.specs.Routing.{Routing, Routable}
use Rattle.channel.proofs.Any.{any_at}
use Rattle.channel.proofs.Nets.{collide_strange, pieces_swap}
use Rattle.channel.proofs.Validity.{each_at}
use Rattle.loads.specs.Loads.{crosses, covered, brings, load, Green, Red}
use Rattle.loads.proofs.Covers.{crosses_says}

-- the segment of a track that holds column x
holds : (n prev x : ℕ) (ends : List ℕ) → Rising n prev ends → prev < x → x ≤ n → (k : ℕ) × (k < length ends) × (x ≤ get_or ends k 0) × ((i : ℕ) → i < k → get_or ends i 0 < x)
unfolding Rising
holds n prev x [] r h l = absurd (omega arith)
holds n prev x (e ∷ es) r h l =
    ⊎_elim
    (λ (b : e < x). let k = holds n e x es r.1 b l in (suc k.0, omega (arith, k.1), k.2, before k.0 b k.3))
    (λ (b : x ≤ e). (0, omega arith, b, λ i o. absurd (omega arith)))
    (below e x)
  where
    before : (k : ℕ) → e < x → ((i : ℕ) → i < k → get_or es i 0 < x) → (i : ℕ) → i < suc k → get_or (e ∷ es) i 0 < x
    before k b f zero o = b
    before k b f (suc i) o = f i (omega arith)

-- two connections over one column share a segment of every track, the one that holds the column
pub shared_column : (n : ℕ) (t : Track) (a b : Connection) (x : ℕ) → TrackRule n t → 1 ≤ x → x ≤ n → crosses a x ≡ true → crosses b x ≡ true → share t a b ≡ true
unfolding share left_end occupied
shared_column n t a b x r low high ca cb =
    let k = holds n 0 x t.ends r.rises low high in
    any_at (λ k. occupied t a k && occupied t b k) (segments t) k.0 k.1 (and_both (over a k.0 k.2 k.3 ca) (over b k.0 k.2 k.3 cb))
  where
    starts : (k : ℕ) → ((i : ℕ) → i < k → get_or t.ends i 0 < x) → left_end t.ends k ≤ x
    starts zero f = omega arith
    starts (suc k) f = omega (arith, f k (omega arith))

    over : (c : Connection) (k : ℕ) → x ≤ get_or t.ends k 0 → ((i : ℕ) → i < k → get_or t.ends i 0 < x) → crosses c x ≡ true → occupied t c k ≡ true
    over c k h f e =
        let z = crosses_says c x e in
        let s = starts k f in
        and_both (le-leb c.left (get_or t.ends k 0) (omega arith)) (le-leb (left_end t.ends k) c.right (omega arith))

-- the connections that a load counts, in the list's order: n different ones that cross x, no two of them pieces of one net
pub record Counted (cs : List Connection) (x n : ℕ) : Type 0 where
  pub pick : ℕ → ℕ
  pub inside : (k : ℕ) → k < n → pick k < length cs
  pub rising : (h k : ℕ) → h < k → k < n → pick h < pick k
  pub over : (k : ℕ) → k < n → crosses (connection_at cs (pick k)) x ≡ true
  pub apart : (h k : ℕ) → h < k → k < n → pieces (connection_at cs (pick h)) (connection_at cs (pick k)) ≡ false

uncovered : (cs : List Connection) (c : Connection) (x : ℕ) → covered cs c x ≡ false → (i : ℕ) → i < length cs → crosses (connection_at cs i) x ≡ true → pieces c (connection_at cs i) ≡ false
unfolding covered connection_at
uncovered [] c x e i h o = absurd (omega arith)
uncovered (d ∷ ds) c x e zero h o = pieces_swap c d ∙ false-by (λ j. not-both (and_both j o) (neither (pieces d c && crosses d x) _ e).0)
uncovered (d ∷ ds) c x e (suc i) h o = uncovered ds c x (neither (pieces d c && crosses d x) _ e).1 i (omega arith) o

later : {cs : List Connection} {x n : ℕ} (c : Connection) → Counted cs x n → Counted (c ∷ cs) x n
unfolding connection_at
later c g = record { pick = λ k. suc (g.pick k); inside = λ k h. omega (arith, g.inside k h); rising = λ h k l m. omega (arith, g.rising h k l m); over = g.over; apart = g.apart }

module _ (cs : List Connection) (x n : ℕ) (c : Connection) (o : crosses c x ≡ true) (e : covered cs c x ≡ false) (g : Counted cs x n) where
  picked : ℕ → ℕ
  picked zero = 0
  picked (suc k) = suc (g.pick k)

  here : Counted (c ∷ cs) x (suc n)
  unfolding connection_at picked
  here = record { pick = picked; inside = inside; rising = rising; over = over; apart = apart }
    where
      inside : (k : ℕ) → k < suc n → picked k < suc (length cs)
      inside zero h = omega arith
      inside (suc k) h = omega (arith, g.inside k (omega arith))

      rising : (h k : ℕ) → h < k → k < suc n → picked h < picked k
      rising h zero l m = absurd (omega arith)
      rising zero (suc k) l m = omega arith
      rising (suc h) (suc k) l m = omega (arith, g.rising h k (omega arith) (omega arith))

      over : (k : ℕ) → k < suc n → crosses (connection_at (c ∷ cs) (picked k)) x ≡ true
      over zero h = o
      over (suc k) h = g.over k (omega arith)

      apart : (h k : ℕ) → h < k → k < suc n → pieces (connection_at (c ∷ cs) (picked h)) (connection_at (c ∷ cs) (picked k)) ≡ false
      apart h zero l m = absurd (omega arith)
      apart zero (suc k) l m = uncovered cs c x e (g.pick k) (g.inside k (omega arith)) (g.over k (omega arith))
      apart (suc h) (suc k) l m = g.apart h k (omega arith) (omega arith)

-- the load is the number of a list of connections over x, no two of one net
pub counted : (cs : List Connection) (x : ℕ) → Counted cs x (load cs x)
unfolding load brings
counted [] x = record { pick = λ k. 0; inside = λ k h. absurd (omega arith); rising = λ h k l m. absurd (omega arith); over = λ k h. absurd (omega arith); apart = λ h k l m. absurd (omega arith) }
counted (c ∷ cs) x = go (counted cs x) (brings cs c x) refl
  where
    go : Counted cs x (load cs x) → (b : Bool) → brings cs c x ≡ b → Counted (c ∷ cs) x (load cs x + bit_of b)
    go g true e =
        let z : load cs x + 1 ≡ suc (load cs x) = omega arith in
        subst (λ (n : ℕ). Counted (c ∷ cs) x n) (sym z) (here cs x (load cs x) c (and_left (crosses c x) _ e) (not-true (covered cs c x) (and_right (crosses c x) _ e)) g)
    go g false e =
        let z : load cs x + 0 ≡ load cs x = omega arith in
        subst (λ (n : ℕ). Counted (c ∷ cs) x n) (sym z) (later c g)

module _ (j : Job) (v : Valid j) where
  -- in a routing no column has more nets than there are tracks
  pub routing_green : (q : List ℕ) → Routing j q → Green (load j.connections) (T j) j.columns
  unfolding track_at
  routing_green q g x low high =
      let cs = j.connections in
      let c = counted cs x in
      let n = load cs x in
      let w = g.whole in
      let label : ℕ → ℕ = λ k. get_or q (c.pick k) 0 in
      let fits : (k : ℕ) → k < n → (1 ≤ label k) × (label k ≤ T j) = λ k h. g.legal.labels (c.pick k) (omega (arith, c.inside k h)) in
      let apart : (h k : ℕ) → h < k → k < n → label h ≡ label k → ⊥ = λ h k l m e.
      let t = track_at j.tracks (label k) in
      let a = connection_at cs (c.pick h) in
      let b = connection_at cs (c.pick k) in
      let f = fits k m in
      let r : TrackRule j.columns t = each_at (TrackRule j.columns) j.tracks (record { flag = 0; ends = [] }) v.tracks (label k - 1) (omega arith) in
      let s : share t a b ≡ true = shared_column j.columns t a b x r low high (c.over h (omega arith)) (c.over k m) in
      not-both (collide_strange a b t (c.apart h k l m) ∙ s) (g.legal.apart (c.pick h) (c.pick k) (c.rising h k l m) (omega (arith, c.inside k m)) e) in
      pigeons n (T j) (λ k i. label k ≡ suc i)
      (λ k h. let f = fits k h in (label k - 1, omega arith, omega arith))
      (λ h k i a b p r. ⊎_elim (λ (l : h < k). absurd (apart h k l b (p ∙ sym r))) (λ (l : k ≤ h). ⊎_elim (λ (m : k < h). absurd (apart k h m a (r ∙ sym p))) (λ (m : h ≤ k). omega arith) (below k h)) (below h k))

  -- a routable channel is never red
  pub routable_green : Routable j → Green (load j.connections) (T j) j.columns
  routable_green r = routing_green r.0 r.1

  -- a column whose load exceeds T: no legal routing exists
  pub red_none : (x : ℕ) → 1 ≤ x → x ≤ j.columns → T j < load j.connections x → Routable j → ⊥
  red_none x low high over r = omega (arith, routable_green r x low high)

-- the red column of loads: there is one at most, and where there is one it is not all green
module _ (loads : ℕ → ℕ) (t n : ℕ) where
  pub red_one : (r s : ℕ) → Red loads t n r → Red loads t n s → r ≡ s
  red_one r s a b =
      ⊎_elim
      (λ (l : r < s). absurd (omega (arith, b.first r a.low l, a.over)))
      (λ (l : s ≤ r). ⊎_elim (λ (m : s < r). absurd (omega (arith, a.first s b.low m, b.over))) (λ (m : r ≤ s). omega arith) (below s r))
      (below r s)

  pub red_green : (r : ℕ) → Red loads t n r → Green loads t n → ⊥
  red_green r a g = omega (arith, g r a.low a.high, a.over)
