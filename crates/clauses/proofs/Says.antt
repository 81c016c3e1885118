-- What a grid's clauses say of the codes that the variables spell: each is a track's, it is not barred, and no two connections with one code collide there.
-- Assumes nothing.
use mathlib.Core.Path.{◌≡◌, refl, sym, ap, ◌∙◌, subst}
use mathlib.Core.Bool.{Bool, true, false, ◌||◌, not}
use mathlib.Core.List.{◌++◌}
use Prim.Native.Nat.{ℕ, ◌+◌, ◌*◌, ◌-◌, ◌^◌, ◌<◌}
use native.Mathlib.Omega.{arith}
use lib.Dec.{ltb}
use borrow.Author.Tests.{ltb-true, ltb-false, lt-ltb}
use Rattle.facts.proofs.Bools.{and_left, and_right, and_both, true-by, false-by, neither, not-both}
use Rattle.dimacs.specs.Clause.{makes, makes_all}
use Rattle.clauses.specs.Clauses.{Grid, bar, width_of, beyond, bars, pairs, meets, clauses_of}
use Rattle.clauses.proofs.Joins.{makes-append, all_left, all_right, all_both, all_join, join_all, all_one, one_all, all_only, only_all}
use Rattle.clauses.proofs.Bits.{code_at, code_at_lt, unmade, spelt}
use Rattle.clauses.proofs.Width.{bits_for_is}

-- the codes f, one for each connection, keep the rules of a grid
pub record Fits (grid : Grid) (f : ℕ → ℕ) : Type 0 where
  pub tracks : (i : ℕ) → i < grid.connections → f i < grid.tracks
  pub allowed : (i : ℕ) → i < grid.connections → grid.barred i (f i) ≡ false
  pub apart : (h i : ℕ) → h < i → i < grid.connections → f h ≡ f i → grid.collide h i (f h) ≡ false

-- codes equal to these keep them too
pub fits_same : (grid : Grid) (f f' : ℕ → ℕ) → ((i : ℕ) → i < grid.connections → f i ≡ f' i) → Fits grid f → Fits grid f'
fits_same grid f f' e s = record {
  tracks = λ i l. subst (λ x. x < grid.tracks) (e i l) (s.tracks i l);
  allowed = λ i l. subst (λ x. grid.barred i x ≡ false) (e i l) (s.allowed i l);
  apart = λ h i l k q. let g : h < grid.connections = omega arith in subst (λ x. grid.collide h i x ≡ false) (e h g) (s.apart h i l k (e h g ∙ q ∙ sym (e i k)));
}

module _ (grid : Grid) (σ : ℕ → Bool) where
  -- the code of connection i + 1 by its variables
  abbrev pub code_by : ℕ → ℕ
  code_by i = code_at σ (i * width_of grid + 1) (width_of grid)

  has : (i c : ℕ) → c < 2 ^ width_of grid → makes σ (bar (width_of grid) i c) ≡ false → code_by i ≡ c
  unfolding bar
  has i c l h = unmade σ (width_of grid) (i * width_of grid + 1) c l h

  made : (i c : ℕ) → (code_by i ≡ c → ⊥) → c < 2 ^ width_of grid → makes σ (bar (width_of grid) i c) ≡ true
  made i c n l = true-by (λ h. n (has i c l h))

  unmade_bar : (i : ℕ) → makes σ (bar (width_of grid) i (code_by i)) ≡ false
  unfolding bar
  unmade_bar i = spelt σ (width_of grid) (i * width_of grid + 1) (code_by i) refl

  small : (c : ℕ) → c < grid.tracks → c < 2 ^ width_of grid
  small c h = let w = (bits_for_is grid.tracks).enough in omega arith

  all_beyond : Fits grid code_by → makes_all σ (beyond grid) ≡ true
  unfolding beyond
  all_beyond s = all_join σ grid.connections _ (λ i l. all_join σ (2 ^ width_of grid - grid.tracks) _ (λ k g. all_one σ _ (made i (grid.tracks + k) (λ e. let z = s.tracks i l in omega arith) (omega arith))))

  all_bars : Fits grid code_by → makes_all σ (bars grid) ≡ true
  unfolding bars
  all_bars s = all_join σ grid.connections _ (λ i l. all_join σ grid.tracks _ (λ t g. all_only σ (grid.barred i t) _ (λ b. made i t (λ e. not-both b (subst (λ x. grid.barred i x ≡ false) e (s.allowed i l))) (small t g))))

  all_pairs : Fits grid code_by → makes_all σ (pairs grid) ≡ true
  unfolding pairs
  all_pairs s = all_join σ grid.connections _ (λ i l. all_join σ grid.connections _ (λ j k. all_join σ grid.tracks _ (λ t g. all_only σ (meets grid i j t) _ (λ b. pair i j t k g b))))
    where
      pair : (i j t : ℕ) → j < grid.connections → t < grid.tracks → meets grid i j t ≡ true → makes σ (bar (width_of grid) i t ++ bar (width_of grid) j t) ≡ true
      pair i j t k g b = makes-append σ (bar (width_of grid) i t) (bar (width_of grid) j t) ∙ true-by (λ f.
          let n = neither (makes σ (bar (width_of grid) i t)) _ f in
          let e : code_by i ≡ t = has i t (small t g) n.0 in
          let e' : code_by j ≡ t = has j t (small t g) n.1 in
          let lt = ltb-true i j (and_left _ _ b) in
          let c : grid.collide i j t ≡ true = and_left _ _ (and_right (ltb i j) _ b) in
          not-both c (subst (λ x. grid.collide i j x ≡ false) e (s.apart i j lt k (e ∙ sym e'))))

  pub fits_all : Fits grid code_by → makes_all σ (clauses_of grid) ≡ true
  unfolding clauses_of
  fits_all s = all_both σ (beyond grid) _ (all_beyond s) (all_both σ (bars grid) (pairs grid) (all_bars s) (all_pairs s))

  unfold_beyond : makes_all σ (beyond grid) ≡ true → (i k : ℕ) → i < grid.connections → k < 2 ^ width_of grid - grid.tracks → makes σ (bar (width_of grid) i (grid.tracks + k)) ≡ true
  unfolding beyond
  unfold_beyond h i k l g = one_all σ _ (join_all σ (2 ^ width_of grid - grid.tracks) _ (join_all σ grid.connections _ h i l) k g)

  unfold_bars : makes_all σ (bars grid) ≡ true → (i t : ℕ) → i < grid.connections → t < grid.tracks → grid.barred i t ≡ true → makes σ (bar (width_of grid) i t) ≡ true
  unfolding bars
  unfold_bars h i t l g b = only_all σ (grid.barred i t) _ (join_all σ grid.tracks _ (join_all σ grid.connections _ h i l) t g) b

  unfold_pairs : makes_all σ (pairs grid) ≡ true → (i j t : ℕ) → i < grid.connections → j < grid.connections → t < grid.tracks → meets grid i j t ≡ true → makes σ (bar (width_of grid) i t ++ bar (width_of grid) j t) ≡ true
  unfolding pairs
  unfold_pairs h i j t l k g b = only_all σ (meets grid i j t) _ (join_all σ grid.tracks _ (join_all σ grid.connections _ (join_all σ grid.connections _ h i l) j k) t g) b

  pub all_fits : makes_all σ (clauses_of grid) ≡ true → Fits grid code_by
  unfolding clauses_of
  all_fits h = record { tracks = tracks; allowed = allowed; apart = apart }
    where
      h₁ : makes_all σ (beyond grid) ≡ true
      h₁ = all_left σ (beyond grid) _ h

      h₂ : makes_all σ (bars grid) ≡ true
      h₂ = all_left σ (bars grid) _ (all_right σ (beyond grid) _ h)

      h₃ : makes_all σ (pairs grid) ≡ true
      h₃ = all_right σ (bars grid) _ (all_right σ (beyond grid) _ h)

      tracks : (i : ℕ) → i < grid.connections → code_by i < grid.tracks
      tracks i l = ltb-true (code_by i) grid.tracks (true-by (λ e.
          let n = ltb-false (code_by i) grid.tracks e in
          let z = code_at_lt σ (width_of grid) (i * width_of grid + 1) in
          let r : grid.tracks + (code_by i - grid.tracks) ≡ code_by i = omega arith in
          not-both (unfold_beyond h₁ i (code_by i - grid.tracks) l (omega arith)) (subst (λ x. makes σ (bar (width_of grid) i x) ≡ false) (sym r) (unmade_bar i))))

      allowed : (i : ℕ) → i < grid.connections → grid.barred i (code_by i) ≡ false
      allowed i l = false-by (λ e. not-both (unfold_bars h₂ i (code_by i) l (tracks i l) e) (unmade_bar i))

      apart : (i j : ℕ) → i < j → j < grid.connections → code_by i ≡ code_by j → grid.collide i j (code_by i) ≡ false
      apart i j l k q = false-by (λ e. not-both (both (and_both (lt-ltb i j l) (and_both e (and_both (ap not (allowed i i<)) (ap not (subst (λ x. grid.barred j x ≡ false) (sym q) (allowed j k))))))) unmade_both)
        where
          i< : i < grid.connections
          i< = omega arith

          both : meets grid i j (code_by i) ≡ true → (makes σ (bar (width_of grid) i (code_by i)) || makes σ (bar (width_of grid) j (code_by i))) ≡ true
          both m = sym (makes-append σ (bar (width_of grid) i (code_by i)) (bar (width_of grid) j (code_by i))) ∙ unfold_pairs h₃ i j (code_by i) i< k (tracks i i<) m

          unmade_both : (makes σ (bar (width_of grid) i (code_by i)) || makes σ (bar (width_of grid) j (code_by i))) ≡ false
          unmade_both = λ n. unmade_bar i n || subst (λ x. makes σ (bar (width_of grid) j x) ≡ false) (sym q) (unmade_bar j) n
