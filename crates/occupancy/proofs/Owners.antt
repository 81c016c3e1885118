-- The owners of taken segments: a net, or a connection on its own. Two connections have the same owner exactly if they are pieces of one net. Assumes nothing.
use mathlib.Core.Path.{◌≡◌, sym, ap, ◌∙◌}
use mathlib.Core.Bool.{true, cond}
use Prim.Native.Nat.{ℕ, ◌+◌, ◌≤◌, ◌<◌}
use native.Mathlib.Omega.{arith}
use lib.Dec.{eqb}
use borrow.Author.Tests.{eqb-true, eqb-false, eq-eqb, ne_eqb}
use Rattle.facts.proofs.Bools.{iff, whether}
use Rattle.channel.specs.Limits.{most_net}
use Rattle.channel.specs.Channel.{Job, net, pieces, connection_at, M}
use Rattle.channel.specs.Valid.{Valid}
use Rattle.channel.proofs.Nets.{net_most, pieces_say, pieces_are}
use Rattle.channel.proofs.Validity.{rule_at}
use Rattle.occupancy.specs.Runs.{owner_of, owner_at, Owners}

module _ (n i : ℕ) where
  pub owner_alone : n ≡ 0 → owner_of n i ≡ most_net + 1 + i
  unfolding owner_of
  owner_alone e = ap (λ b. cond b (most_net + 1 + i) n) (eq-eqb n 0 e)

  pub owner_net : (n ≡ 0 → ⊥) → owner_of n i ≡ n
  unfolding owner_of
  owner_net e = ap (λ b. cond b (most_net + 1 + i) n) (ne_eqb n 0 e)

  owner_some : 1 ≤ owner_of n i
  owner_some = whether (eqb n 0) (λ h. omega (arith, owner_alone (eqb-true n 0 h))) (λ h. let e = eqb-false n 0 h in omega (arith, owner_net e))

-- two nets with the same owner for two connections: one net, above 0
one_owner : (a b h i : ℕ) → a ≤ most_net → b ≤ most_net → h < i → owner_of a h ≡ owner_of b i → (1 ≤ a) × (a ≡ b)
one_owner a b h i x y l e =
    whether (eqb a 0)
    (λ p. absurd (whether (eqb b 0) (λ q. omega (arith, owner_alone a h (eqb-true a 0 p), owner_alone b i (eqb-true b 0 q))) (λ q. omega (arith, owner_alone a h (eqb-true a 0 p), owner_net b i (eqb-false b 0 q)))))
    (λ p.
    let z = eqb-false a 0 p in
    whether (eqb b 0) (λ q. absurd (omega (arith, owner_net a h z, owner_alone b i (eqb-true b 0 q)))) (λ q. (omega arith, sym (owner_net a h z) ∙ e ∙ owner_net b i (eqb-false b 0 q))))

module _ (j : Job) (v : Valid j) where
  abbrev net_at : ℕ → ℕ
  net_at i = net (connection_at j.connections i)

  most : (i : ℕ) → i < M j → net_at i ≤ most_net
  most i l = net_most (connection_at j.connections i) (rule_at j v i l).marked

  same_owner : (h i : ℕ) → h < i → i < M j → eqb (owner_at j h) (owner_at j i) ≡ pieces (connection_at j.connections h) (connection_at j.connections i)
  same_owner h i g l = iff there back
    where
      there : eqb (owner_at j h) (owner_at j i) ≡ true → pieces (connection_at j.connections h) (connection_at j.connections i) ≡ true
      there e = let s = one_owner (net_at h) (net_at i) h i (most h (omega arith)) (most i l) g (eqb-true _ _ e) in pieces_are _ _ s.0 s.1

      back : pieces (connection_at j.connections h) (connection_at j.connections i) ≡ true → eqb (owner_at j h) (owner_at j i) ≡ true
      back e =
          let s = pieces_say _ _ e in
          eq-eqb _ _ (owner_net (net_at h) h (λ z. omega (arith, s.0)) ∙ s.1 ∙ sym (owner_net (net_at i) i (λ z. omega (arith, s.0, s.1))))

  -- bytes that are the owners tell what owners tell
  pub owners_by : (owner : ℕ → ℕ) → ((i : ℕ) → i < M j → owner i ≡ owner_at j i) → Owners j owner
  owners_by owner is =
      record {
        some = λ i l. rw (is i l) (owner_some (net_at i) i);
        same = λ h i g l. let k : h < M j = omega arith in rw (is h k, is i l) (same_owner h i g l);
      }
