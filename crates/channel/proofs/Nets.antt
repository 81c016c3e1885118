-- Laws of nets: a mark put together and read, pieces of one net, and what collides beside them. Assumes nothing.
use mathlib.Core.Path.{◌≡◌, refl, sym, ◌∙◌}
use mathlib.Core.Bool.{Bool, true, false, ◌&&◌, not, and-true, and-false}
use Prim.Native.Nat.{ℕ, ◌≤◌}
use native.Mathlib.Omega.{arith}
use lib.Dec.{ltb}
use borrow.Author.Tests.{eqb-true, eq-eqb, ltb-true, lt-ltb, not-false}
use Rattle.facts.proofs.Bools.{both, and_both, iff, false-by}
use Rattle.facts.proofs.Odd.{half_of, odd-of, made_of}
use Rattle.channel.specs.Limits.{most_mark, most_net}
use Rattle.channel.specs.Channel.{Track, Connection, mark_of, net, critical, pieces, share, collide}

-- the readings of a mark that was put together, and every mark is put together of its readings
module _ (l r n : ℕ) (b : Bool) where
  pub net-made : net (record { left = l; right = r; mark = mark_of n b }) ≡ n
  unfolding net
  net-made = half_of n b

  pub critical-made : critical (record { left = l; right = r; mark = mark_of n b }) ≡ b
  unfolding critical
  critical-made = odd-of n b

module _ (c : Connection) where
  pub mark_made : mark_of (net c) (critical c) ≡ c.mark
  unfolding net critical
  mark_made = made_of c.mark

  pub net_most : c.mark ≤ most_mark → net c ≤ most_net
  unfolding net
  net_most h = omega arith

module _ (a b : Connection) where
  pub pieces_say : pieces a b ≡ true → (1 ≤ net a) × (net a ≡ net b)
  unfolding pieces
  pieces_say h = let g = both (ltb 0 (net a)) _ h in (ltb-true 0 (net a) g.0, eqb-true (net a) (net b) g.1)

  pub pieces_are : 1 ≤ net a → net a ≡ net b → pieces a b ≡ true
  unfolding pieces
  pieces_are h e = and_both (lt-ltb 0 (net a) h) (eq-eqb (net a) (net b) e)

  pub pieces_back : pieces a b ≡ true → pieces b a ≡ true
  unfolding pieces
  pieces_back h = let s = pieces_say h in and_both (lt-ltb 0 (net b) (omega (arith, s.0, s.1))) (eq-eqb (net b) (net a) (sym s.1))

  -- net 0 never joins
  pub alone_left : net a ≡ 0 → pieces a b ≡ false
  alone_left e = false-by (λ h. let s = pieces_say h in absurd (omega (arith, s.0)))

  pub alone_right : net b ≡ 0 → pieces a b ≡ false
  alone_right e = false-by (λ h. let s = pieces_say h in absurd (omega (arith, s.0, s.1)))

  module _ (t : Track) where
    -- what does not share a segment does not collide, nor do pieces of one net; all else collides where it shares one
    pub collide_apart : share t a b ≡ false → collide t a b ≡ false
    unfolding collide
    collide_apart e = rw e refl

    pub collide-pieces : pieces a b ≡ true → collide t a b ≡ false
    unfolding collide
    collide-pieces e = rw e (and-false (share t a b))

    pub collide_say : collide t a b ≡ false → share t a b ≡ true → pieces a b ≡ true
    unfolding collide
    collide_say e s = not-false _ (sym (λ i. s i && not (pieces a b)) ∙ e)

    pub collide_strange : pieces a b ≡ false → collide t a b ≡ share t a b
    unfolding collide
    collide_strange e = rw e (and-true (share t a b))

-- either way round they are the same
pub pieces_swap : (a b : Connection) → pieces a b ≡ pieces b a
pieces_swap a b = iff (pieces_back a b) (pieces_back b a)

pub pieces_on : (a b c : Connection) → pieces a b ≡ true → pieces b c ≡ true → pieces a c ≡ true
pieces_on a b c g h = pieces_are a c (pieces_say a b g).0 ((pieces_say a b g).1 ∙ (pieces_say b c h).1)
