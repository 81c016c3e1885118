-- What counting counts: `seqs w n` holds each sequence of n labels of 1 to w exactly once, and nothing else. A count over a fan is a sum over its first
-- labels, of which one at most is that of the sequence asked for. Assumes nothing.
use mathlib.Core.Path.{◌≡◌, refl, ap, ◌∙◌}
use mathlib.Core.Bool.{Bool, true, false, ◌&&◌, cond}
use mathlib.Core.List.{List, [], ◌∷◌}
use mathlib.Core.Logic.{◌⊎◌, inl, inr, ⊎_elim}
use Prim.Native.Nat.{ℕ, zero, suc, ◌+◌, ◌≤◌, ◌<◌}
use native.Mathlib.Nat.{eq-or-lt_of_le}
use native.Mathlib.Omega.{arith}
use lib.Dec.{ltb, eqb}
use borrow.Author.Tests.{ltb-true, ltb-false, eq-eqb, ne_eqb}
use Rattle.facts.specs.Same.{same}
use Rattle.search.specs.Sequences.{Labelled}
use Rattle.search.specs.Need.{fan, seqs, count, occurs, ListsEach}
use Rattle.search.proofs.Counting.{across, across_ext, count-fan, count_none}

-- a sum in which the label u alone counts: it is not among the labels, or it is
miss : (m t u c : ℕ) → (u < t) ⊎ (t + m ≤ u) → across m t (λ v. cond (eqb v u) c 0) ≡ 0
unfolding across
miss zero t u c h = refl
miss (suc m) t u c h =
    let a = ap (λ b. cond b c 0) (ne_eqb t u (λ e. apart h e)) in
    let b = miss m (suc t) u c (rest h) in
    omega arith
  where
    apart : (u < t) ⊎ (t + suc m ≤ u) → t ≡ u → ⊥
    apart (inl k) e = omega arith
    apart (inr k) e = omega arith

    rest : (u < t) ⊎ (t + suc m ≤ u) → (u < suc t) ⊎ (suc t + m ≤ u)
    rest (inl k) = inl (omega arith)
    rest (inr k) = inr (omega arith)

hit : (m t u c : ℕ) → t ≤ u → u < t + m → across m t (λ v. cond (eqb v u) c 0) ≡ c
unfolding across
hit zero t u c l h = omega arith
hit (suc m) t u c l h = ⊎_elim here (λ k. later k (hit m (suc t) u c k (omega arith))) (eq-or-lt_of_le l)
  where
    here : t ≡ u → cond (eqb t u) c 0 + across m (suc t) (λ v. cond (eqb v u) c 0) ≡ c
    here e =
        let a = ap (λ b. cond b c 0) (eq-eqb t u e) in
        let b = miss m (suc t) u c (inl (omega arith)) in
        omega arith

    later : t < u → across m (suc t) (λ v. cond (eqb v u) c 0) ≡ c → cond (eqb t u) c 0 + across m (suc t) (λ v. cond (eqb v u) c 0) ≡ c
    later k b = let a = ap (λ b. cond b c 0) (ne_eqb t u (λ e. omega arith)) in omega arith

count_gate : (b : Bool) (a : List ℕ → Bool) (xs : List (List ℕ)) → count (λ e. b && a e) xs ≡ cond b (count a xs) 0
count_gate true a xs = refl
count_gate false a xs = count_none xs

fan-nil : (m t : ℕ) (xs : List (List ℕ)) → occurs [] (fan m t xs) ≡ 0
unfolding same across
fan-nil m t xs = count-fan (λ e. same e []) m t xs ∙ across_ext m t _ _ (λ v. count_none xs) ∙ nothing m t
  where
    nothing : (m t : ℕ) → across m t (λ v. 0) ≡ 0
    nothing zero t = refl
    nothing (suc m) t = let ih = nothing m (suc t) in omega arith

fan-cons : (m t u : ℕ) (q : List ℕ) (xs : List (List ℕ)) → occurs (u ∷ q) (fan m t xs) ≡ across m t (λ v. cond (eqb v u) (occurs q xs) 0)
unfolding same
fan-cons m t u q xs = count-fan (λ e. same e (u ∷ q)) m t xs ∙ across_ext m t _ _ (λ v. count_gate (eqb v u) (λ e. same e q) xs)

once : (w n : ℕ) (q : List ℕ) → Labelled w n q → occurs q (seqs w n) ≡ 1
unfolding seqs count same Labelled
once w zero [] h = refl
once w zero (u ∷ q) h = absurd h
once w (suc n) [] h = absurd h
once w (suc n) (u ∷ q) h = fan-cons w 1 u q (seqs w n) ∙ hit w 1 u (occurs q (seqs w n)) h.0 (let k = h.1 in omega arith) ∙ once w n q h.2

only : (w n : ℕ) (q : List ℕ) → (Labelled w n q → ⊥) → occurs q (seqs w n) ≡ 0
unfolding seqs count same Labelled
only w zero [] h = absurd (h tt)
only w zero (u ∷ q) h = refl
only w (suc n) [] h = fan-nil w 1 (seqs w n)
only w (suc n) (u ∷ q) h = fan-cons w 1 u q (seqs w n) ∙ low (only w n q) (ltb u 1) refl
  where
    inside : 1 ≤ u → ((Labelled w n q → ⊥) → occurs q (seqs w n) ≡ 0) → (b : Bool) → ltb w u ≡ b → across w 1 (λ v. cond (eqb v u) (occurs q (seqs w n)) 0) ≡ 0
    inside a f true e = let k = ltb-true w u e in miss w 1 u (occurs q (seqs w n)) (inr (omega arith))
    inside a f false e = let k = ltb-false w u e in hit w 1 u (occurs q (seqs w n)) a (omega arith) ∙ f (λ l. h (a, k, l))

    low : ((Labelled w n q → ⊥) → occurs q (seqs w n) ≡ 0) → (b : Bool) → ltb u 1 ≡ b → across w 1 (λ v. cond (eqb v u) (occurs q (seqs w n)) 0) ≡ 0
    low f true e = miss w 1 u (occurs q (seqs w n)) (inl (ltb-true u 1 e))
    low f false e = inside (ltb-false u 1 e) f (ltb w u) refl

pub seqs-list : (w n : ℕ) → ListsEach w n (seqs w n)
seqs-list w n = record { once = once w n; only = only w n }
