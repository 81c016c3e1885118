-- The clause list has the clauses of the three groups and no others. Assumes nothing.
use mathlib.Core.Path.{◌≡◌, ap, ◌∙◌}
use mathlib.Core.Logic.{◌⊎◌, ◌↔◌, inl, inr, ⊎_elim}
use mathlib.Core.Bool.{true, not}
use mathlib.Core.List.Memᴰ
use mathlib.Core.List.{Memᴰ}
use Prim.Native.Nat.{◌+◌, ◌-◌, ◌^◌, ◌<◌}
use native.Mathlib.Omega.{arith}
use lib.Dec.{ltb}
use borrow.Author.Tests.{ltb-true, lt-ltb, not-true}
use Rattle.facts.proofs.Bools.{and_left, and_right, and_both}
use Rattle.dimacs.specs.Clause.{Clause}
use Rattle.clauses.specs.Clauses.{Grid, width_of, bar, beyond, bars, meets, pairs, clauses_of}
use Rattle.clauses.specs.Groups.{InBeyond, InBars, InPairs}
use Rattle.clauses.proofs.Joins.{in_join, join_has, in_only, only-has}

module _ (g : Grid) (x : Clause) where
  in_beyond : Memᴰ x (beyond g) → InBeyond g x
  unfolding beyond
  in_beyond m =
      let a = in_join x g.connections _ m in
      let b = in_join x (2 ^ width_of g - g.tracks) _ a.2 in
      let k = b.1 in
      record { connection = a.0; code = g.tracks + b.0; inside = a.1; above = omega arith; below = omega arith; is = Memᴰ.eq_of_singleton b.2 }

  beyond-has : InBeyond g x → Memᴰ x (beyond g)
  unfolding beyond
  beyond-has r =
      let a = r.above in let b = r.below in
      let e : r.code ≡ g.tracks + (r.code - g.tracks) = omega arith in
      join_has x g.connections _ r.connection r.inside (join_has x (2 ^ width_of g - g.tracks) _ (r.code - g.tracks) (omega arith) (Memᴰ.head (r.is ∙ ap (bar (width_of g) r.connection) e)))

  in_bars : Memᴰ x (bars g) → InBars g x
  unfolding bars
  in_bars m =
      let a = in_join x g.connections _ m in
      let b = in_join x g.tracks _ a.2 in
      let d = in_only x (g.barred a.0 b.0) _ b.2 in
      record { connection = a.0; code = b.0; inside = a.1; track = b.1; barred = d.0; is = d.1 }

  bars-has : InBars g x → Memᴰ x (bars g)
  unfolding bars
  bars-has r = join_has x g.connections _ r.connection r.inside (join_has x g.tracks _ r.code r.track (Memᴰ.cast r.is (only-has (g.barred r.connection r.code) _ r.barred)))

  in_pairs : Memᴰ x (pairs g) → InPairs g x
  unfolding pairs
  in_pairs m =
      let a = in_join x g.connections _ m in
      let b = in_join x g.connections _ a.2 in
      let d = in_join x g.tracks _ b.2 in
      let e = in_only x (meets g a.0 b.0 d.0) _ d.2 in
      let f = and_right (ltb a.0 b.0) _ e.0 in
      let h = and_right (g.collide a.0 b.0 d.0) _ f in
      record {
        m = a.0;
        n = b.0;
        code = d.0;
        order = ltb-true a.0 b.0 (and_left _ _ e.0);
        inside = b.1;
        track = d.1;
        collide = and_left (g.collide a.0 b.0 d.0) _ f;
        free_m = not-true _ (and_left _ _ h);
        free_n = not-true _ (and_right (not (g.barred a.0 d.0)) _ h);
        is = e.1;
      }

  pairs-has : InPairs g x → Memᴰ x (pairs g)
  unfolding pairs
  pairs-has r =
      let l : r.m < g.connections = let a = r.order in let b = r.inside in omega arith in
      let b : meets g r.m r.n r.code ≡ true = and_both (lt-ltb r.m r.n r.order) (and_both r.collide (and_both (ap not r.free_m) (ap not r.free_n))) in
      join_has x g.connections _ r.m l (join_has x g.connections _ r.n r.inside (join_has x g.tracks _ r.code r.track (Memᴰ.cast r.is (only-has (meets g r.m r.n r.code) _ b))))

  pub clauses_are : Memᴰ x (clauses_of g) ↔ (InBeyond g x ⊎ (InBars g x ⊎ InPairs g x))
  unfolding clauses_of
  clauses_are = (
    (λ m. ⊎_elim (λ a. inl (in_beyond a)) (λ b. inr (⊎_elim (λ a. inl (in_bars a)) (λ d. inr (in_pairs d)) (Memᴰ.append_cases (bars g) b))) (Memᴰ.append_cases (beyond g) m)),
    ⊎_elim (λ a. Memᴰ.append_left _ (beyond-has a)) (λ b. Memᴰ.append_right (beyond g) (⊎_elim (λ a. Memᴰ.append_left _ (bars-has a)) (λ d. Memᴰ.append_right (bars g) (pairs-has d)) b)),
  )
