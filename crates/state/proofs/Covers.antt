-- Why a walk is right: a column is covered by another piece exactly if the furthest that the pieces set down from the walk's first column on reach is at it or
-- behind it. Assumes nothing.
use mathlib.Core.Path.{◌≡◌, sym, ap, subst, ◌∙◌}
use mathlib.Core.Bool.{true, false, not}
use mathlib.Core.Logic.{⊎_elim}
use mathlib.Core.List.{List}
use Prim.Native.Nat.{ℕ, zero, suc, ◌+◌, ◌-◌, ◌≤◌, ◌<◌, max}
use native.Mathlib.Omega.{arith}
use lib.Dec.{leb, ltb}
use lib.ListN.{get_or}
use borrow.Author.Tests.{leb-true, le-leb, lt-leb, lt-ltb, le-ltb}
use Rattle.facts.proofs.Bools.{iff, below}
use Rattle.channel.specs.Channel.{Connection, net_in, net, pieces, connection_at}
use Rattle.channel.specs.Relaxed.{without}
use Rattle.loads.specs.Loads.{crosses, covered}
use Rattle.loads.proofs.Covers.{crosses_says, crosses_is, covered_alone, but_says, but_is}
use Rattle.jobfile.specs.Rows.{tab}
use Rattle.jobfile.proofs.Decode.{tab-length, tab-at}
use Rattle.state.specs.State.{connection_in}
use Rattle.state.specs.Walks.{one_net, with_mark, other_over, SetDown, furthest}
use Rattle.state.proofs.Walks.{max-one}

-- the furthest: none reaches further, and one reaches as far
furthest_above : (reach : List ℕ) (l n k : ℕ) → k < n → get_or reach (l + k) 0 ≤ furthest reach l n
unfolding furthest
furthest_above reach l zero k h = absurd (omega arith)
furthest_above reach l (suc n) k h =
    ⊎_elim
    (λ (b : k < n). omega (arith, furthest_above reach l n k b))
    (λ (b : n ≤ k). let z : n ≡ k = omega arith in subst (λ (w : ℕ). get_or reach (l + w) 0 ≤ max (furthest reach l n) (get_or reach (l + n) 0)) z (omega arith))
    (below k n)

furthest_from : (reach : List ℕ) (l n : ℕ) → 0 < furthest reach l n → (k : ℕ) × (k < n) × (get_or reach (l + k) 0 ≡ furthest reach l n)
unfolding furthest
furthest_from reach l zero h = absurd (omega arith)
furthest_from reach l (suc n) h =
    ⊎_elim
    (λ (e : max (furthest reach l n) (get_or reach (l + n) 0) ≡ furthest reach l n). let k = furthest_from reach l n (omega arith) in (k.0, omega (arith, k.1), k.2 ∙ sym e))
    (λ (e : max (furthest reach l n) (get_or reach (l + n) 0) ≡ get_or reach (l + n) 0). (n, omega arith, sym e))
    (max-one (furthest reach l n) (get_or reach (l + n) 0))

pub list_at : (s : List ℕ) (m h : ℕ) → h < m → connection_at (tab (connection_in s) m 0) h ≡ connection_in s h
unfolding connection_at
list_at s m h l = let z : 0 + h ≡ h = omega arith in tab-at (connection_in s) (record { left = 1; right = 1; mark = 0 }) m 0 h l ∙ ap (connection_in s) z

module _ (s : List ℕ) (m but l k : ℕ) (reach : List ℕ) (g : SetDown s m but l k reach) (x : ℕ) (low : 1 ≤ x) (after : l ≤ x) where
  abbrev far : ℕ
  far = furthest reach l (x + 1 - l)

  abbrev list : List Connection
  list = tab (connection_in s) m 0

  over-to : covered (without but list) (with_mark k) x ≡ true → leb x far ≡ true
  unfolding pieces net one_net
  over-to e =
      let p = but_says but list (with_mark k) x e in
      let h = p.0 in
      let hm : h < m = omega (arith, p.1, tab-length (connection_in s) m 0) in
      let at = list_at s m h hm in
      let d = connection_in s h in
      let over = crosses_says d x (subst (λ (b : Connection). crosses b x ≡ true) at p.4) in
      let reached = g.whole h hm p.2 (subst (λ (b : Connection). pieces b (with_mark k) ≡ true) at p.3) in
      let y = max d.left l in
      let yl : l ≤ y = omega arith in
      let yx : y ≤ x = omega (arith, over.0) in
      let z : l + (y - l) ≡ y = omega arith in
      let f = subst (λ (w : ℕ). get_or reach w 0 ≤ far) z (furthest_above reach l (x + 1 - l) (y - l) (omega arith)) in
      le-leb x far (omega (arith, over.1))

  over_from : leb x far ≡ true → covered (without but list) (with_mark k) x ≡ true
  unfolding pieces net one_net
  over_from e =
      let reached = leb-true x far e in
      let p = furthest_from reach l (x + 1 - l) (omega arith) in
      let q = g.sound (l + p.0) (omega (arith, p.2)) in
      let h = q.0 in
      let at = list_at s m h q.1 in
      let d = connection_in s h in
      but_is but list (with_mark k) x h (omega (arith, q.1, tab-length (connection_in s) m 0)) q.5
      (subst (λ (b : Connection). pieces b (with_mark k) ≡ true) (sym at) q.2)
      (subst (λ (b : Connection). crosses b x ≡ true) (sym at) (crosses_is d x (omega (arith, q.3, p.1)) (omega (arith, q.4, p.2))))

  pub over-furthest : ltb far x ≡ not (other_over s m but k x)
  unfolding other_over
  over-furthest = turn (⊎_elim (λ (h : far < x). lt-ltb far x h ∙ sym (ap not (lt-leb x far h))) (λ (h : x ≤ far). le-ltb far x h ∙ sym (ap not (le-leb x far h))) (below far x))
    where
      turn : ltb far x ≡ not (leb x far) → ltb far x ≡ not (covered (without but list) (with_mark k) x)
      turn e = e ∙ ap not (iff over_from over-to)

-- one on its own is beside no piece
pub alone_over : (s : List ℕ) (m but k x : ℕ) → net_in k ≡ 0 → other_over s m but k x ≡ false
unfolding other_over net
alone_over s m but k x z = covered_alone (without but (tab (connection_in s) m 0)) (with_mark k) x z
