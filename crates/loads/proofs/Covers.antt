-- Who crosses a column, and whose net is over it already. Assumes nothing.
use mathlib.Core.Path.{◌≡◌, refl}
use mathlib.Core.Bool.{true, false, ◌&&◌, ◌||◌}
use mathlib.Core.Logic.{⊎_elim}
use mathlib.Core.List.{List, [], ◌∷◌}
use Prim.Native.Nat.{ℕ, zero, suc, ◌≤◌, ◌<◌}
use native.Mathlib.Omega.{arith}
use lib.Dec.{leb, ltb, eqb}
use lib.ListN.{length}
use borrow.Author.Tests.{leb-true, le-leb}
use Rattle.facts.proofs.Bools.{both, never, and_both, and_left, and_right, either, or-first, or_second}
use Rattle.channel.specs.Channel.{Connection, net_in, net, pieces, connection_at}
use Rattle.channel.specs.Relaxed.{without}
use Rattle.channel.proofs.Nets.{pieces_on, alone_right}
use Rattle.loads.specs.Loads.{crosses, covered}

-- crosses, as the two columns
module _ (c : Connection) (x : ℕ) where
  pub crosses_says : crosses c x ≡ true → (c.left ≤ x) × (x ≤ c.right)
  unfolding crosses
  crosses_says e = let b = both (leb c.left x) _ e in (leb-true c.left x b.0, leb-true x c.right b.1)

  pub crosses_is : c.left ≤ x → x ≤ c.right → crosses c x ≡ true
  unfolding crosses
  crosses_is h l = and_both (le-leb c.left x h) (le-leb x c.right l)

-- pieces of one net are covered alike
pub covered-pieces : (cs : List Connection) (c d : Connection) (x : ℕ) → pieces c d ≡ true → covered cs c x ≡ true → covered cs d x ≡ true
unfolding covered
covered-pieces [] c d x j e = e
covered-pieces (b ∷ bs) c d x j e =
    let ih = covered-pieces bs c d x j in
    ⊎_elim
    (λ (h : (pieces b c && crosses b x) ≡ true). or-first _ (and_both (pieces_on b c d (and_left (pieces b c) _ h) j) (and_right (pieces b c) _ h)))
    (λ (h : covered bs c x ≡ true). or_second (pieces b d && crosses b x) (ih h))
    (either (pieces b c && crosses b x) _ e)

-- nothing covers a connection of net 0
pub covered_alone : (cs : List Connection) (c : Connection) (x : ℕ) → net c ≡ 0 → covered cs c x ≡ false
unfolding covered
covered_alone [] c x h = refl
covered_alone (d ∷ ds) c x h = (λ i. (alone_right d c h i && crosses d x) || covered_alone ds c x h i)

-- covered, by the number of the piece
pub covered_says : (cs : List Connection) (c : Connection) (x : ℕ) → covered cs c x ≡ true → (h : ℕ) × (h < length cs) × (pieces (connection_at cs h) c ≡ true) × (crosses (connection_at cs h) x ≡ true)
unfolding covered connection_at
covered_says [] c x e = never cc
covered_says (d ∷ ds) c x e =
    ⊎_elim
    (λ (h : (pieces d c && crosses d x) ≡ true). (0, omega arith, and_left (pieces d c) _ h, and_right (pieces d c) _ h))
    (λ (h : covered ds c x ≡ true). let k = covered_says ds c x h in (suc k.0, omega (arith, k.1), k.2, k.3))
    (either (pieces d c && crosses d x) _ e)

pub covered_is : (cs : List Connection) (c : Connection) (x h : ℕ) → h < length cs → pieces (connection_at cs h) c ≡ true → crosses (connection_at cs h) x ≡ true → covered cs c x ≡ true
unfolding covered connection_at
covered_is [] c x h l j o = absurd (omega arith)
covered_is (d ∷ ds) c x zero l j o = or-first _ (and_both j o)
covered_is (d ∷ ds) c x (suc h) l j o = or_second (pieces d c && crosses d x) (covered_is ds c x h (omega arith) j o)

-- covered by another than connection i + 1, by its number in the whole list
pub but_says : (i : ℕ) (cs : List Connection) (c : Connection) (x : ℕ) → covered (without i cs) c x ≡ true → (h : ℕ) × (h < length cs) × (h ≡ i → ⊥) × (pieces (connection_at cs h) c ≡ true) × (crosses (connection_at cs h) x ≡ true)
unfolding covered connection_at without
but_says i [] c x e = never cc
but_says zero (d ∷ ds) c x e = let k = covered_says ds c x e in (suc k.0, omega (arith, k.1), (λ z. omega arith), k.2, k.3)
but_says (suc i) (d ∷ ds) c x e =
    ⊎_elim
    (λ (h : (pieces d c && crosses d x) ≡ true). (0, omega arith, (λ z. omega arith), and_left (pieces d c) _ h, and_right (pieces d c) _ h))
    (λ (h : covered (without i ds) c x ≡ true). let k = but_says i ds c x h in (suc k.0, omega (arith, k.1), (λ z. k.2 (omega arith)), k.3, k.4))
    (either (pieces d c && crosses d x) _ e)

pub but_is : (i : ℕ) (cs : List Connection) (c : Connection) (x h : ℕ) → h < length cs → (h ≡ i → ⊥) → pieces (connection_at cs h) c ≡ true → crosses (connection_at cs h) x ≡ true → covered (without i cs) c x ≡ true
unfolding covered connection_at without
but_is i [] c x h l n j o = absurd (omega arith)
but_is zero (d ∷ ds) c x zero l n j o = absurd (n refl)
but_is zero (d ∷ ds) c x (suc h) l n j o = covered_is ds c x h (omega arith) j o
but_is (suc i) (d ∷ ds) c x zero l n j o = or-first _ (and_both j o)
but_is (suc i) (d ∷ ds) c x (suc h) l n j o = or_second (pieces d c && crosses d x) (but_is i ds c x h (omega arith) (λ z. n (omega arith)) j o)

-- only the mark of a connection decides whether it is covered
pub covered-marked : (cs : List Connection) (c d : Connection) (x : ℕ) → c.mark ≡ d.mark → covered cs c x ≡ covered cs d x
unfolding covered pieces net
covered-marked [] c d x e = refl
covered-marked (b ∷ bs) c d x e = (λ i. ((ltb 0 (net b) && eqb (net b) (net_in (e i))) && crosses b x) || covered-marked bs c d x e i)
