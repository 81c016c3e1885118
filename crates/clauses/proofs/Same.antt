-- The clauses rest on nothing of a grid but what is barred, below its numbers of tracks and connections, and what collides where neither is barred. Assumes nothing.
use mathlib.Core.Path.{◌≡◌, refl, sym, ap, ◌∙◌}
use mathlib.Core.Bool.{Bool, true, false, ◌&&◌, not, and-false}
use mathlib.Core.List.{◌++◌}
use Prim.Native.Nat.{ℕ, ◌<◌}
use lib.Dec.{ltb}
use borrow.Author.Tests.{ltb-true}
use Rattle.clauses.specs.Clauses.{Grid, only, bar, bits_for, beyond, bars, meets, pairs, clauses_of}
use Rattle.clauses.proofs.Joins.{join_same}

module _ (t m : ℕ) (b b' : ℕ → ℕ → Bool) (c c' : ℕ → ℕ → ℕ → Bool)
    (eb : (i u : ℕ) → i < m → u < t → b i u ≡ b' i u)
    (ec : (i j u : ℕ) → i < j → j < m → u < t → b i u ≡ false → b j u ≡ false → c i j u ≡ c' i j u) where
  abbrev one : Grid
  one = record { tracks = t; connections = m; barred = b; collide = c }

  abbrev other : Grid
  other = record { tracks = t; connections = m; barred = b'; collide = c' }

  same-beyond : beyond one ≡ beyond other
  unfolding beyond
  same-beyond = refl

  same-bars : bars one ≡ bars other
  unfolding bars
  same-bars = join_same m _ _ (λ i l. join_same t _ _ (λ u k. ap (λ x. only x (bar (bits_for t) i u)) (eb i u l k)))

  same_meets : (i j u : ℕ) → i < m → j < m → u < t → meets one i j u ≡ meets other i j u
  same_meets i j u l k h = go (ltb i j) refl (b i u) refl (b j u) refl ∙ (λ z. ltb i j && (c' i j u && (not (eb i u l h z) && not (eb j u k h z))))
    where
      go : (x : Bool) → ltb i j ≡ x → (y : Bool) → b i u ≡ y → (y' : Bool) → b j u ≡ y' → (x && (c i j u && (not y && not y'))) ≡ (x && (c' i j u && (not y && not y')))
      go false e y f y' f' = refl
      go true e true f y' f' = and-false (c i j u) ∙ sym (and-false (c' i j u))
      go true e false f true f' = and-false (c i j u) ∙ sym (and-false (c' i j u))
      go true e false f false f' = λ z. ec i j u (ltb-true i j e) k h f f' z && true

  same-pairs : pairs one ≡ pairs other
  unfolding pairs
  same-pairs = join_same m _ _ (λ i l. join_same m _ _ (λ j k. join_same t _ _ (λ u h. ap (λ x. only x (bar (bits_for t) i u ++ bar (bits_for t) j u)) (same_meets i j u l k h))))

  pub same-clauses : clauses_of one ≡ clauses_of other
  unfolding clauses_of
  same-clauses = λ z. same-beyond z ++ (same-bars z ++ same-pairs z)
