-- The load of a column is how many of the nets 1 to 127 have a connection over it, and how many connections of net 0 cross it. Assumes nothing.
use mathlib.Core.Path.{◌≡◌, refl, sym, ap, ◌∙◌}
use mathlib.Core.Bool.{Bool, true, false, ◌&&◌, ◌||◌, not, and-true}
use mathlib.Core.Logic.{⊎_elim}
use mathlib.Core.List.{List, [], ◌∷◌}
use Prim.Native.Nat.{ℕ, zero, suc, ◌+◌, ◌-◌, ◌≤◌, ◌<◌}
use native.Mathlib.Omega.{arith}
use lib.Dec.{eqb}
use borrow.Author.Tests.{eq-eqb, ne_eqb, eqb-true}
use Rattle.facts.specs.Odd.{bit_of}
use Rattle.facts.proofs.Bools.{iff, below}
use Rattle.channel.specs.Limits.{most_net}
use Rattle.channel.specs.Channel.{Connection, Job, net, pieces, count_to}
use Rattle.channel.specs.Valid.{Each, ConnectionRule, Valid}
use Rattle.channel.proofs.Nets.{net_most, pieces_say, pieces_are}
use Rattle.loads.specs.Loads.{crosses, covered, brings, load, net_over, on_their_own}
use Rattle.loads.proofs.Covers.{covered_alone}

-- two tests counted that differ at k at most
module _ (f g : ℕ → Bool) (k : ℕ) (b : Bool) (other : (m : ℕ) → (m ≡ k → ⊥) → g m ≡ f m) (here : g k ≡ (b || f k)) where
  count-before : (n : ℕ) → n ≤ k → count_to g n ≡ count_to f n
  unfolding count_to
  count-before zero h = refl
  count-before (suc n) h = (λ i. count-before n (omega arith) i + bit_of (other n (λ e. omega arith) i))

  one_more : (b c : Bool) → bit_of (b || c) ≡ bit_of c + bit_of (b && not c)
  one_more true true = refl
  one_more true false = refl
  one_more false true = refl
  one_more false false = refl

  count-one : (n : ℕ) → k < n → count_to g n ≡ count_to f n + bit_of (b && not (f k))
  unfolding count_to
  count-one zero h = absurd (omega arith)
  count-one (suc n) h =
      ⊎_elim
      (λ (l : k < n). let ih = count-one n l in let e = ap bit_of (other n (λ z. omega arith)) in omega arith)
      (λ (l : n ≤ k).
      let z : n ≡ k = omega arith in
      let c = count-before n l in
      let e : bit_of (g n) ≡ bit_of (f n) + bit_of (b && not (f k)) = ap (λ (m : ℕ). bit_of (g m)) z ∙ ap bit_of here ∙ one_more b (f k) ∙ ap (λ (m : ℕ). bit_of (f m) + bit_of (b && not (f k))) (sym z) in
      omega arith)
      (below k n)

-- covered: the net is over the column
covered-net : (cs : List Connection) (c : Connection) (x : ℕ) → 1 ≤ net c → covered cs c x ≡ net_over cs (net c) x
unfolding covered net_over
covered-net [] c x h = refl
covered-net (d ∷ ds) c x h = (λ i. (same i && crosses d x) || covered-net ds c x h i)
  where
    same : pieces d c ≡ eqb (net d) (net c)
    same = iff (λ e. eq-eqb (net d) (net c) (pieces_say d c e).1) (λ e. let z = eqb-true (net d) (net c) e in pieces_are d c (omega arith) z)

none_over : (n : ℕ) → count_to (λ (k : ℕ). false) n ≡ 0
unfolding count_to
none_over zero = refl
none_over (suc n) = omega (arith, none_over n)

-- one connection more
module _ (c : Connection) (cs : List Connection) (x : ℕ) where
  abbrev over : ℕ → Bool
  over n = net_over cs (suc n) x

  abbrev with : ℕ → Bool
  with n = net_over (c ∷ cs) (suc n) x

  other : (m : ℕ) → (net c ≡ suc m → ⊥) → with m ≡ over m
  unfolding net_over
  other m h = (λ i. (ne_eqb (net c) (suc m) h i && crosses c x) || over m)

  -- on its own: no net more, and one more on its own if it crosses
  own_more : net c ≡ 0 → count_to with most_net + on_their_own (c ∷ cs) x ≡ count_to over most_net + on_their_own cs x + bit_of (brings cs c x)
  unfolding on_their_own brings
  own_more z =
      let a = count-before over with most_net false (λ m h. other m (λ e. omega arith)) (other most_net (λ e. omega arith)) most_net (omega arith) in
      let b : bit_of (eqb (net c) 0 && crosses c x) ≡ bit_of (crosses c x && not (covered cs c x)) = (λ i. bit_of (eq-eqb (net c) 0 z i && crosses c x)) ∙ sym ((λ i. bit_of (crosses c x && not (covered_alone cs c x z i))) ∙ ap bit_of (and-true (crosses c x))) in
      omega arith

  -- a piece: its net is one more if it crosses and the net was not over x
  piece_more : 0 < net c → net c ≤ most_net → count_to with most_net + on_their_own (c ∷ cs) x ≡ count_to over most_net + on_their_own cs x + bit_of (brings cs c x)
  unfolding on_their_own brings net_over
  piece_more l h =
      let k = net c - 1 in
      let at : net c ≡ suc k = omega arith in
      let a = count-one over with k (crosses c x) (λ m n. other m (λ e. n (omega arith))) ((λ i. (eq-eqb (net c) (suc k) at i && crosses c x) || over k)) most_net (omega arith) in
      let b : bit_of (crosses c x && not (over k)) ≡ bit_of (crosses c x && not (covered cs c x)) = (λ i. bit_of (crosses c x && not ((ap (λ (n : ℕ). net_over cs n x) (sym at) ∙ sym (covered-net cs c x l)) i))) in
      let d : bit_of (eqb (net c) 0 && crosses c x) ≡ 0 = (λ i. bit_of (ne_eqb (net c) 0 (λ e. omega arith) i && crosses c x)) in
      omega arith

pub load_nets : (cs : List Connection) (x : ℕ) → Each (λ c. net c ≤ most_net) cs → load cs x ≡ count_to (λ n. net_over cs (suc n) x) most_net + on_their_own cs x
unfolding load net_over on_their_own Each
load_nets [] x h = omega (arith, none_over most_net)
load_nets (c ∷ cs) x h =
    let ih = load_nets cs x h.1 in
    ap (λ (n : ℕ). n + bit_of (brings cs c x)) ih ∙ sym (⊎_elim (λ (l : 0 < net c). piece_more c cs x l h.0) (λ (l : net c ≤ 0). own_more c cs x (omega arith)) (below 0 (net c)))

-- of a valid job
pub valid_load_nets : (j : Job) → Valid j → (x : ℕ) → load j.connections x ≡ count_to (λ n. net_over j.connections (suc n) x) most_net + on_their_own j.connections x
unfolding Each
valid_load_nets j v x = load_nets j.connections x (nets j.connections v.connections)
  where
    nets : (cs : List Connection) → Each (ConnectionRule j.columns) cs → Each (λ c. net c ≤ most_net) cs
    nets [] h = tt
    nets (c ∷ cs) h = (net_most c h.0.marked, nets cs h.1)
