-- Lists made by `join_to` and `only`: how long they are, what stands in them, and when all of their clauses are true. Assumes nothing.
use mathlib.Core.Path.{◌≡◌, refl, sym, ap, ◌∙◌, subst}
use mathlib.Core.Logic.{⊎_elim}
use mathlib.Core.Bool.{Bool, true, false, ◌||◌, or_assoc}
use mathlib.Core.List.{List, [], ◌∷◌, ◌++◌, map, append_assoc, append-nil, Memᴰ}
use Prim.Native.Nat.{ℕ, zero, suc, ◌+◌, ◌*◌, ◌≤◌, ◌<◌}
use native.Mathlib.Nat.{eq-or-lt_of_le, suc-mul, add-zero, add-suc}
use native.Mathlib.Omega.{arith}
use lib.ListN.{length, length-append}
use Rattle.facts.specs.Odd.{bit_of}
use Rattle.facts.proofs.Bools.{not-both, and_left, and_right, and_both}
pub use Rattle.facts.proofs.Bools.{one_most as bit_le}
use Rattle.dimacs.specs.Clause.{Clause, is_true, makes, makes_all}
use Rattle.channel.specs.Valid.{Each}
use Rattle.channel.proofs.Validity.{each_append}
use Rattle.clauses.specs.Clauses.{join_to, only}

-- what holds of n and of all below it holds of all below n + 1
last_or_before : (P : ℕ → Type 0) (i n : ℕ) → i < suc n → (i < n → P i) → P n → P i
last_or_before P i n l f g = ⊎_elim (λ (e : i ≡ n). subst P (sym e) g) f (eq-or-lt_of_le {n = i} {m = n} (omega arith))

-- how long they are

pub length_join : {A : Type 0} (f : ℕ → List A) (n : ℕ) → length (join_to (suc n) f) ≡ length (join_to n f) + length (f n)
unfolding join_to
length_join f n = length-append (join_to n f) (f n)

pub join_most : {A : Type 0} (f : ℕ → List A) (b n : ℕ) → ((i : ℕ) → length (f i) ≤ b) → length (join_to n f) ≤ n * b
unfolding join_to
join_most f b zero h = omega arith
join_most f b (suc n) h = let s = length_join f n in let m = suc-mul n b in let ih = join_most f b n h in let z = h n in omega arith

pub only-length : {A : Type 0} (b : Bool) (x : A) → length (only b x) ≡ bit_of b
unfolding only
only-length true x = refl
only-length false x = refl

pub only-true : {A : Type 0} (b : Bool) (x : A) → b ≡ true → only b x ≡ x ∷ []
unfolding only
only-true b x e = ap (λ v. only v x) e

pub only_most : {A : Type 0} (b : Bool) (x : A) → length (only b x) ≤ 1
only_most b x = let e = only-length b x in let l = bit_le b in omega arith

-- a part with what is before it and behind it; the first part in front; the first a parts and the others; no part has anything

pub join_split : {A : Type 0} (f : ℕ → List A) (n i : ℕ) → i < n → (rest : List A) × (join_to n f ≡ join_to i f ++ (f i ++ rest))
unfolding join_to
join_split f zero i l = absurd (omega arith)
join_split {A = A} f (suc n) i l =
    last_or_before (λ k. (rest : List A) × (join_to (suc n) f ≡ join_to k f ++ (f k ++ rest))) i n l
    (λ g. let r = join_split f n i g in (r.0 ++ f n, ap (λ x. x ++ f n) r.1 ∙ append_assoc (join_to i f) (f i ++ r.0) (f n) ∙ ap (λ x. join_to i f ++ x) (append_assoc (f i) r.0 (f n))))
    ([], ap (λ x. join_to n f ++ x) (sym (append-nil (f n))))

pub join_front : {A : Type 0} (n : ℕ) (f : ℕ → List A) → join_to (suc n) f ≡ f 0 ++ join_to n (λ i. f (suc i))
unfolding join_to
join_front zero f = sym (append-nil (f 0))
join_front (suc n) f = ap (λ l. l ++ f (suc n)) (join_front n f) ∙ append_assoc (f 0) (join_to n (λ i. f (suc i))) (f (suc n))

pub join_sum : {A : Type 0} (a b : ℕ) (f : ℕ → List A) → join_to (a + b) f ≡ join_to a f ++ join_to b (λ k. f (a + k))
unfolding join_to
join_sum a zero f = ap (λ k. join_to k f) (add-zero a) ∙ sym (append-nil (join_to a f))
join_sum a (suc b) f = ap (λ k. join_to k f) (add-suc a b) ∙ ap (λ l. l ++ f (a + b)) (join_sum a b f) ∙ append_assoc (join_to a f) (join_to b (λ k. f (a + k))) (f (a + b))

pub join_empty : {A : Type 0} (n : ℕ) (f : ℕ → List A) → ((i : ℕ) → i < n → f i ≡ []) → join_to n f ≡ []
unfolding join_to
join_empty zero f h = refl
join_empty (suc n) f h = λ z. join_empty n f (λ i l. h i (omega arith)) z ++ h n (omega arith) z

pub join_cut : {A : Type 0} (a b : ℕ) (f : ℕ → List A) → ((k : ℕ) → f (a + k) ≡ []) → join_to (a + b) f ≡ join_to a f
join_cut a b f h = join_sum a b f ∙ ap (λ l. join_to a f ++ l) (join_empty b (λ k. f (a + k)) (λ k l. h k)) ∙ append-nil (join_to a f)

-- what holds of each entry

pub join_of : {A : Type 0} (P : A → Type 0) (n : ℕ) (f : ℕ → List A) → ((i : ℕ) → i < n → Each P (f i)) → Each P (join_to n f)
unfolding join_to Each
join_of P zero f h = tt
join_of P (suc n) f h = each_append P (join_to n f) (f n) (join_of P n f (λ i l. h i (omega arith))) (h n (omega arith))

pub only_of : {A : Type 0} (P : A → Type 0) (b : Bool) (x : A) → (b ≡ true → P x) → Each P (only b x)
unfolding only Each
only_of P true x h = (h refl, tt)
only_of P false x h = tt

-- equal parts make equal lists
pub join_same : {A : Type 0} (n : ℕ) (f g : ℕ → List A) → ((i : ℕ) → i < n → f i ≡ g i) → join_to n f ≡ join_to n g
unfolding join_to
join_same zero f g h = refl
join_same (suc n) f g h = λ z. join_same n f g (λ i l. h i (omega arith)) z ++ h n (omega arith) z

-- what is made of each entry

pub map-append : {A B : Type 0} (g : A → B) (x y : List A) → map g (x ++ y) ≡ map g x ++ map g y
map-append g [] y = refl
map-append g (a ∷ x) y = ap (λ l. g a ∷ l) (map-append g x y)

pub map_join : {A B : Type 0} (g : A → B) (n : ℕ) (f : ℕ → List A) → map g (join_to n f) ≡ join_to n (λ i. map g (f i))
unfolding join_to
map_join g zero f = refl
map_join g (suc n) f = map-append g (join_to n f) (f n) ∙ ap (λ l. l ++ map g (f n)) (map_join g n f)

pub map-only : {A B : Type 0} (g : A → B) (b : Bool) (x : A) → map g (only b x) ≡ only b (g x)
unfolding only
map-only g true x = refl
map-only g false x = refl

-- what stands in them

pub in_join : {A : Type 0} (x : A) (n : ℕ) (f : ℕ → List A) → Memᴰ x (join_to n f) → (i : ℕ) × (i < n) × Memᴰ x (f i)
unfolding join_to
in_join x zero f m = absurd (mathlib.Core.List.Memᴰ.not-nil m)
in_join x (suc n) f m =
    ⊎_elim
    (λ (a : Memᴰ x (join_to n f)). let r = in_join x n f a in (r.0, let l = r.1 in omega arith, r.2))
    (λ (b : Memᴰ x (f n)). (n, omega arith, b))
    (mathlib.Core.List.Memᴰ.append_cases (join_to n f) m)

pub join_has : {A : Type 0} (x : A) (n : ℕ) (f : ℕ → List A) (i : ℕ) → i < n → Memᴰ x (f i) → Memᴰ x (join_to n f)
unfolding join_to
join_has x zero f i l m = absurd (omega arith)
join_has x (suc n) f i l m =
    ⊎_elim
    (λ (e : i ≡ n). mathlib.Core.List.Memᴰ.append_right (join_to n f) (subst (λ (k : ℕ). Memᴰ x (f k)) e m))
    (λ (g : i < n). mathlib.Core.List.Memᴰ.append_left (f n) (join_has x n f i g m))
    (eq-or-lt_of_le {n = i} {m = n} (omega arith))

pub in_only : {A : Type 0} (x : A) (b : Bool) (y : A) → Memᴰ x (only b y) → (b ≡ true) × (x ≡ y)
unfolding only
in_only x true y m = (refl, mathlib.Core.List.Memᴰ.eq_of_singleton m)
in_only x false y m = absurd (mathlib.Core.List.Memᴰ.not-nil m)

pub only-has : {A : Type 0} (b : Bool) (y : A) → b ≡ true → Memᴰ y (only b y)
unfolding only
only-has true y h = mathlib.Core.List.Memᴰ.head refl
only-has false y h = not-both h refl

-- when all of their clauses are true

module _ (σ : ℕ → Bool) where
  pub makes-append : (c d : Clause) → makes σ (c ++ d) ≡ (makes σ c || makes σ d)
  unfolding makes
  makes-append [] d = refl
  makes-append (l ∷ c) d = ap (λ b. is_true σ l || b) (makes-append c d) ∙ sym (or_assoc (is_true σ l) (makes σ c) (makes σ d))

  pub all_left : (c d : List Clause) → makes_all σ (c ++ d) ≡ true → makes_all σ c ≡ true
  unfolding makes_all
  all_left [] d h = refl
  all_left (x ∷ c) d h = and_both (and_left (makes σ x) _ h) (all_left c d (and_right (makes σ x) _ h))

  pub all_right : (c d : List Clause) → makes_all σ (c ++ d) ≡ true → makes_all σ d ≡ true
  unfolding makes_all
  all_right [] d h = h
  all_right (x ∷ c) d h = all_right c d (and_right (makes σ x) _ h)

  pub all_both : (c d : List Clause) → makes_all σ c ≡ true → makes_all σ d ≡ true → makes_all σ (c ++ d) ≡ true
  unfolding makes_all
  all_both [] d h g = g
  all_both (x ∷ c) d h g = and_both (and_left (makes σ x) _ h) (all_both c d (and_right (makes σ x) _ h) g)

  pub all_join : (n : ℕ) (f : ℕ → List Clause) → ((i : ℕ) → i < n → makes_all σ (f i) ≡ true) → makes_all σ (join_to n f) ≡ true
  unfolding join_to makes_all
  all_join zero f h = refl
  all_join (suc n) f h = all_both (join_to n f) (f n) (all_join n f (λ i l. h i (omega arith))) (h n (omega arith))

  pub join_all : (n : ℕ) (f : ℕ → List Clause) → makes_all σ (join_to n f) ≡ true → (i : ℕ) → i < n → makes_all σ (f i) ≡ true
  unfolding join_to
  join_all zero f h i l = absurd (omega arith)
  join_all (suc n) f h i l = last_or_before (λ k. makes_all σ (f k) ≡ true) i n l (λ g. join_all n f (all_left (join_to n f) (f n) h) i g) (all_right (join_to n f) (f n) h)

  pub all_one : (c : Clause) → makes σ c ≡ true → makes_all σ (c ∷ []) ≡ true
  unfolding makes_all
  all_one c h = and_both h refl

  pub one_all : (c : Clause) → makes_all σ (c ∷ []) ≡ true → makes σ c ≡ true
  unfolding makes_all
  one_all c h = and_left (makes σ c) _ h

  pub all_only : (b : Bool) (c : Clause) → (b ≡ true → makes σ c ≡ true) → makes_all σ (only b c) ≡ true
  unfolding only makes_all
  all_only true c h = all_one c (h refl)
  all_only false c h = refl

  pub only_all : (b : Bool) (c : Clause) → makes_all σ (only b c) ≡ true → b ≡ true → makes σ c ≡ true
  unfolding only
  only_all true c h g = one_all c h
  only_all false c h g = not-both g refl
