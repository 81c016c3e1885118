-- A list that is read from places: one more, one that is taken out, one that is another. Assumes nothing.
use mathlib.Core.Path.{◌≡◌, refl, ap, subst, ◌∙◌}
use mathlib.Core.List.{List, [], ◌∷◌, ◌++◌}
use Prim.Native.Nat.{ℕ, zero, suc, ◌+◌, ◌≤◌, ◌<◌}
use native.Mathlib.Omega.{arith}
use lib.ListN.{set}
use Rattle.channel.specs.Channel.{Connection}
use Rattle.channel.specs.Relaxed.{without}
use Rattle.jobfile.specs.Rows.{tab}

pub tab-same : (f g : ℕ → Connection) (k i : ℕ) → ((j : ℕ) → i ≤ j → j < i + k → f j ≡ g j) → tab f k i ≡ tab g k i
unfolding tab
tab-same f g zero i e = refl
tab-same f g (suc k) i e = (λ x. e i (omega arith) (omega arith) x ∷ tab-same f g k (suc i) (λ j a b. e j (omega arith) (omega arith)) x)

-- one more, behind the last
pub tab_more : (g : ℕ → Connection) (k i : ℕ) → tab g (suc k) i ≡ tab g k i ++ (g (i + k) ∷ [])
unfolding tab
tab_more g zero i = let z : i ≡ i + 0 = omega arith in ap (λ (n : ℕ). g n ∷ []) z
tab_more g (suc k) i = let z : suc i + k ≡ i + suc k = omega arith in ap (λ (q : List Connection). g i ∷ q) (tab_more g k (suc i) ∙ ap (λ (n : ℕ). tab g k (suc i) ++ (g n ∷ [])) z)

-- the one at i is another, and the rest is as it was
pub tab-set : (f g : ℕ → Connection) (k i b : ℕ) → i < k → ((j : ℕ) → b ≤ j → j < b + k → (j ≡ b + i → ⊥) → f j ≡ g j) → tab f k b ≡ set (tab g k b) i (f (b + i))
unfolding tab
tab-set f g zero i b h e = absurd (omega arith)
tab-set f g (suc k) zero b h e = let z : b ≡ b + 0 = omega arith in (λ x. ap f z x ∷ tab-same f g k (suc b) (λ j a l. e j (omega arith) (omega arith) (λ y. omega arith)) x)
tab-set f g (suc k) (suc i) b h e =
    let z : suc b + i ≡ b + suc i = omega arith in
    (λ x. e b (omega arith) (omega arith) (λ y. omega arith) x ∷ (tab-set f g k i (suc b) (omega arith) (λ j a l n. e j (omega arith) (omega arith) (λ y. n (omega arith))) ∙ ap (λ (n : ℕ). set (tab g k (suc b)) i (f n)) z) x)

tab_shift : (f g : ℕ → Connection) (k b : ℕ) → ((j : ℕ) → j < k → f (b + j) ≡ g (suc (b + j))) → tab f k b ≡ tab g k (suc b)
unfolding tab
tab_shift f g zero b e = refl
tab_shift f g (suc k) b e =
    let z : b + 0 ≡ b = omega arith in
    let head : f b ≡ g (suc b) = subst (λ (n : ℕ). f n ≡ g (suc n)) z (e 0 (omega arith)) in
    let rest = tab_shift f g k (suc b) (λ j l. let y : b + suc j ≡ suc b + j = omega arith in subst (λ (n : ℕ). f n ≡ g (suc n)) y (e (suc j) (omega arith))) in
    (λ x. head x ∷ rest x)

-- those behind i have moved down by one: the list without its element i
pub tab-without : (f g : ℕ → Connection) (k i b : ℕ) → i ≤ k → ((j : ℕ) → j < i → f (b + j) ≡ g (b + j)) → ((j : ℕ) → i ≤ j → j < k → f (b + j) ≡ g (suc (b + j))) → tab f k b ≡ without i (tab g (suc k) b)
unfolding tab without
tab-without f g zero zero b h e o = refl
tab-without f g zero (suc i) b h e o = absurd (omega arith)
tab-without f g (suc k) zero b h e o = tab_shift f g (suc k) b (λ j l. o j (omega arith) l)
tab-without f g (suc k) (suc i) b h e o =
    let z : b + 0 ≡ b = omega arith in
    let head : f b ≡ g b = subst (λ (n : ℕ). f n ≡ g n) z (e 0 (omega arith)) in
    let rest = tab-without f g k i (suc b) (omega arith)
    (λ j l. let y : b + suc j ≡ suc b + j = omega arith in subst (λ (n : ℕ). f n ≡ g n) y (e (suc j) (omega arith)))
    (λ j a l. let y : b + suc j ≡ suc b + j = omega arith in subst (λ (n : ℕ). f n ≡ g (suc n)) y (o (suc j) (omega arith) (omega arith))) in
    (λ x. head x ∷ rest x)
