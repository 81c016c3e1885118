-- The literals of every clause stand in variable order, within the variables 1 to V. And each is what document 01 says. Assumes nothing.
use mathlib.Core.Path.{◌≡◌, refl, sym, ap, ◌∙◌, subst}
use mathlib.Core.Logic.{⊎_elim}
use mathlib.Core.Bool.{true}
use mathlib.Core.List.{List, [], ◌∷◌, ◌++◌, Memᴰ}
use Prim.Native.Nat.{ℕ, zero, suc, ◌+◌, ◌*◌, ◌-◌, ◌/◌, ◌^◌, ◌≤◌, ◌<◌}
use native.Mathlib.Omega.{arith}
use native.Mathlib.Nat.{div-div-eq-div-mul, pow-succ', suc-mul, mul-le-mul, le_refl}
use lib.ListN.{length, length-append}
use borrow.Author.Tests.{le-leb}
use Rattle.facts.specs.Odd.{odd}
use Rattle.facts.proofs.Bools.{and_both}
use Rattle.dimacs.specs.Clause.{Clause, within, within_all}
use Rattle.channel.specs.Channel.{Job}
use Rattle.clauses.specs.Clauses.{Grid, grid_of, join_to, forbid, bar, width_of, clauses_of, clauses, variable_count}
use Rattle.clauses.specs.Groups.{InPairs, Rises}
use Rattle.clauses.proofs.Joins.{join_same}
use Rattle.clauses.proofs.Groups.{clauses_are}

-- to forbid a code of k bits: variable v + b, with b from 0, negated where bit b + 1 of the code, bit 1 the highest, is 1
pub forbid_is : (k v c : ℕ) → forbid k v c ≡ join_to k (λ b. record { variable = v + b; negated = odd (c / 2 ^ (k - 1 - b)) } ∷ [])
unfolding forbid join_to
forbid_is zero v c = refl
forbid_is (suc k) v c = λ z. (forbid_is k v (c / 2) ∙ join_same k _ _ (λ b l. ap (λ n. record { variable = v + b; negated = odd n } ∷ []) (halves b l))) z ++ (record { variable = v + k; negated = odd (whole z) } ∷ [])
  where
    halves : (b : ℕ) → b < k → (c / 2) / 2 ^ (k - 1 - b) ≡ c / 2 ^ (suc k - 1 - b)
    halves b l =
        let e : suc k - 1 - b ≡ suc (k - 1 - b) = omega arith in
        div-div-eq-div-mul c 2 (2 ^ (k - 1 - b)) ∙ ap (λ n. c / n) (sym (pow-succ' 2 (k - 1 - b)) ∙ ap (λ n. 2 ^ n) (sym e))

    whole : c ≡ c / 2 ^ (suc k - 1 - k)
    whole = let e : suc k - 1 - k ≡ 0 = omega arith in (let d : c ≡ c / 1 = omega arith in d) ∙ ap (λ n. c / 2 ^ n) (sym e)

rises_low : (a b : ℕ) (c : Clause) (to : ℕ) → a ≤ b → Rises b c to → Rises a c to
unfolding Rises
rises_low a b [] to l r = omega arith
rises_low a b (x ∷ c) to l r = (let s = r.0 in omega arith, r.1)

rises_high : (a : ℕ) (c : Clause) (b to : ℕ) → b ≤ to → Rises a c b → Rises a c to
unfolding Rises
rises_high a [] b to l r = omega arith
rises_high a (x ∷ c) b to l r = (r.0, rises_high (x.variable + 1) c b to l r.1)

rises_room : (a : ℕ) (c : Clause) (to : ℕ) → Rises a c to → a ≤ to
unfolding Rises
rises_room a [] to r = r
rises_room a (x ∷ c) to r = let s = rises_room (x.variable + 1) c to r.1 in let z = r.0 in omega arith

rises_append : (a : ℕ) (c : Clause) (b : ℕ) (d : Clause) (to : ℕ) → Rises a c b → Rises b d to → Rises a (c ++ d) to
unfolding Rises
rises_append a [] b d to r s = rises_low a b d to r s
rises_append a (x ∷ c) b d to r s = (r.0, rises_append (x.variable + 1) c b d to r.1 s)

forbid_rises : (k v c : ℕ) → Rises v (forbid k v c) (v + k)
unfolding forbid Rises
forbid_rises zero v c = omega arith
forbid_rises (suc k) v c = rises_append v (forbid k v (c / 2)) (v + k) _ (v + suc k) (forbid_rises k v (c / 2)) (omega arith, omega arith)

bar_rises : (w i c n : ℕ) → i < n → Rises (i * w + 1) (bar w i c) (n * w + 1)
unfolding bar
bar_rises w i c n l =
    let s = suc-mul i w in
    let m = mul-le-mul {n₁ = suc i} {m₁ = w} {n₂ = n} {m₂ = w} (omega arith) (le_refl w) in
    rises_high (i * w + 1) (forbid w (i * w + 1) c) (i * w + 1 + w) (n * w + 1) (omega arith) (forbid_rises w (i * w + 1) c)

pub clauses_rise : (g : Grid) (x : Clause) → Memᴰ x (clauses_of g) → Rises 1 x (g.connections * width_of g + 1)
clauses_rise g x m = ⊎_elim (λ a. alone a.connection a.code a.inside a.is) (⊎_elim (λ b. alone b.connection b.code b.inside b.is) pair) ((clauses_are g x).0 m)
  where
    alone : (i c : ℕ) → i < g.connections → x ≡ bar (width_of g) i c → Rises 1 x (g.connections * width_of g + 1)
    alone i c l e = subst (λ y. Rises 1 y (g.connections * width_of g + 1)) (sym e) (rises_low 1 (i * width_of g + 1) (bar (width_of g) i c) _ (omega arith) (bar_rises (width_of g) i c g.connections l))

    pair : InPairs g x → Rises 1 x (g.connections * width_of g + 1)
    pair r = subst (λ y. Rises 1 y (g.connections * width_of g + 1)) (sym r.is)
        (rises_low 1 (r.m * width_of g + 1) _ _ (omega arith)
        (rises_append (r.m * width_of g + 1) (bar (width_of g) r.m r.code) (r.n * width_of g + 1) (bar (width_of g) r.n r.code) _ (bar_rises (width_of g) r.m r.code r.n r.order) (bar_rises (width_of g) r.n r.code g.connections r.inside)))

-- so every variable is one of 1 to V
rises_within : (n from : ℕ) (c : Clause) (to : ℕ) → 1 ≤ from → to ≤ n + 1 → Rises from c to → within n c ≡ true
unfolding Rises within
rises_within n from [] to a b r = refl
rises_within n from (l ∷ c) to a b r =
    let z = rises_room (l.variable + 1) c to r.1 in
    let s = r.0 in
    and_both (and_both (le-leb 1 l.variable (omega arith)) (le-leb l.variable n (omega arith))) (rises_within n (l.variable + 1) c to (omega arith) b r.1)

within_each : (n : ℕ) (cs : List Clause) → ((x : Clause) → Memᴰ x cs → within n x ≡ true) → within_all n cs ≡ true
unfolding within_all
within_each n [] h = refl
within_each n (c ∷ cs) h = and_both (h c (Memᴰ.head refl)) (within_each n cs (λ x m. h x (Memᴰ.tail m)))

pub clauses-within : (g : Grid) (n : ℕ) → g.connections * width_of g ≤ n → within_all n (clauses_of g) ≡ true
clauses-within g n h = within_each n (clauses_of g) (λ x m. rises_within n 1 x (g.connections * width_of g + 1) (omega arith) (omega arith) (clauses_rise g x m))

pub job-within : (j : Job) → within_all (variable_count j) (clauses j) ≡ true
job-within j = clauses-within (grid_of j) (variable_count j) (le_refl (variable_count j))

-- and a clause has at most two codes' literals
forbid-length : (k v c : ℕ) → length (forbid k v c) ≡ k
unfolding forbid
forbid-length zero v c = refl
forbid-length (suc k) v c = length-append (forbid k v (c / 2)) (record { variable = v + k; negated = odd c } ∷ []) ∙ (let ih = forbid-length k v (c / 2) in omega arith)

bar-length : (w i c : ℕ) → length (bar w i c) ≡ w
unfolding bar
bar-length w i c = forbid-length w (i * w + 1) c

pub clause_length : (g : Grid) (x : Clause) → Memᴰ x (clauses_of g) → length x ≤ 2 * width_of g
clause_length g x m = ⊎_elim (λ a. alone a.connection a.code a.is) (⊎_elim (λ b. alone b.connection b.code b.is) pair) ((clauses_are g x).0 m)
  where
    alone : (i c : ℕ) → x ≡ bar (width_of g) i c → length x ≤ 2 * width_of g
    alone i c e = let a = ap length e in let b = bar-length (width_of g) i c in omega arith

    pair : InPairs g x → length x ≤ 2 * width_of g
    pair r =
        let a = ap length r.is in
        let b = length-append (bar (width_of g) r.m r.code) (bar (width_of g) r.n r.code) in
        let d = bar-length (width_of g) r.m r.code in
        let e = bar-length (width_of g) r.n r.code in
        omega arith
