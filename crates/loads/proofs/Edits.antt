-- How an edit changes the load of a column. One law carries all: a connection counts beside the rest of the list, wherever it stands. Assumes nothing.
use mathlib.Core.Path.{◌≡◌, refl, ap, ◌∙◌}
use mathlib.Core.Bool.{Bool, true, false, ◌&&◌, ◌||◌, not}
use mathlib.Core.List.{List, [], ◌∷◌, ◌++◌}
use Prim.Native.Nat.{ℕ, zero, suc, ◌+◌, ◌-◌, ◌≤◌, ◌<◌}
use native.Mathlib.Omega.{arith}
use lib.Dec.{leb}
use lib.ListN.{length, set, length-append, length-set}
use borrow.Author.Tests.{leb-true}
use Rattle.facts.specs.Odd.{bit_of}
use Rattle.facts.proofs.Bools.{both, iff, one_most, and_right}
use Rattle.channel.specs.Channel.{Connection, pieces, connection_at}
use Rattle.channel.specs.Relaxed.{without}
use Rattle.channel.proofs.Nets.{pieces_back, pieces_swap}
use Rattle.loads.specs.Loads.{crosses, covered, brings, load}
use Rattle.loads.specs.Edits.{Edit, clear, add, drop, move, moved, edited, good, has_number, accepted}
use Rattle.loads.proofs.Covers.{covered-pieces}

-- c and d beside the same list: which of the two counts first makes no difference. `p`, `q`: c and d cross; `j`: they are pieces of one net; `u`, `v`: c and d
-- are covered
swap : (p q j u v : Bool) → (j ≡ true → u ≡ v) → bit_of (p && not u) + bit_of (q && not ((j && p) || v)) ≡ bit_of (q && not v) + bit_of (p && not ((j && q) || u))
swap p q true u v e = rw (e refl) (same p q v)
  where
    same : (p q v : Bool) → bit_of (p && not v) + bit_of (q && not (p || v)) ≡ bit_of (q && not v) + bit_of (p && not (q || v))
    same true true true = refl
    same true true false = refl
    same true false true = refl
    same true false false = refl
    same false true true = refl
    same false true false = refl
    same false false true = refl
    same false false false = refl
swap true true false true true e = refl
swap true true false true false e = refl
swap true true false false true e = refl
swap true true false false false e = refl
swap true false false true v e = refl
swap true false false false v e = refl
swap false true false u true e = refl
swap false true false u false e = refl
swap false false false u v e = refl

brings_swap : (cs : List Connection) (c d : Connection) (x : ℕ) → bit_of (brings cs c x) + bit_of (brings (c ∷ cs) d x) ≡ bit_of (brings cs d x) + bit_of (brings (d ∷ cs) c x)
unfolding brings covered
brings_swap cs c d x =
    swap (crosses c x) (crosses d x) (pieces c d) (covered cs c x) (covered cs d x) (λ j. iff (covered-pieces cs c d x j) (covered-pieces cs d c x (pieces_back c d j)))
    ∙ ap (λ (j : Bool). bit_of (brings cs d x) + bit_of (crosses c x && not ((j && crosses d x) || covered cs c x))) (pieces_swap c d)

or_swap : (a b c : Bool) → (a || (b || c)) ≡ (b || (a || c))
or_swap true true c = refl
or_swap true false c = refl
or_swap false b c = refl

-- one of the list covers, or one of the others does
covered_apart : (i : ℕ) (cs : List Connection) (d : Connection) (x : ℕ) → i < length cs → covered cs d x ≡ covered (connection_at cs i ∷ without i cs) d x
unfolding covered connection_at without
covered_apart i [] d x h = absurd (omega arith)
covered_apart zero (c ∷ cs) d x h = refl
covered_apart (suc i) (c ∷ cs) d x h =
    ap (λ (b : Bool). (pieces c d && crosses c x) || b) (covered_apart i cs d x (omega arith))
    ∙ or_swap (pieces c d && crosses c x) (pieces (connection_at cs i) d && crosses (connection_at cs i) x) (covered (without i cs) d x)

-- a connection counts beside the others, wherever it stands
pub load_apart : (i : ℕ) (cs : List Connection) (x : ℕ) → i < length cs → load cs x ≡ load (without i cs) x + bit_of (brings (without i cs) (connection_at cs i) x)
unfolding load connection_at without brings
load_apart i [] x h = absurd (omega arith)
load_apart zero (c ∷ cs) x h = refl
load_apart (suc i) (d ∷ ds) x h =
    let rest = without i ds in
    let c = connection_at ds i in
    let e = load_apart i ds x (omega arith) in
    let f : bit_of (brings ds d x) ≡ bit_of (brings (c ∷ rest) d x) = ap (λ (b : Bool). bit_of (crosses d x && not b)) (covered_apart i ds d x (omega arith)) in
    let g = brings_swap rest c d x in
    omega arith

-- the list without its last, and beside one that is set
pub without-last : (cs : List Connection) (c : Connection) → without (length cs) (cs ++ (c ∷ [])) ≡ cs
unfolding without
without-last [] c = refl
without-last (d ∷ ds) c = ap (λ (r : List Connection). d ∷ r) (without-last ds c)

pub without-none : (cs : List Connection) → without (length cs) cs ≡ cs
unfolding without
without-none [] = refl
without-none (d ∷ ds) = ap (λ (r : List Connection). d ∷ r) (without-none ds)

at_last : (cs : List Connection) (c : Connection) → connection_at (cs ++ (c ∷ [])) (length cs) ≡ c
unfolding connection_at
at_last [] c = refl
at_last (d ∷ ds) c = at_last ds c

without-set : (i : ℕ) (cs : List Connection) (c : Connection) → without i (set cs i c) ≡ without i cs
unfolding without
without-set i [] c = refl
without-set zero (d ∷ ds) c = refl
without-set (suc i) (d ∷ ds) c = ap (λ (r : List Connection). d ∷ r) (without-set i ds c)

at_set : (i : ℕ) (cs : List Connection) (c : Connection) → i < length cs → connection_at (set cs i c) i ≡ c
unfolding connection_at
at_set i [] c h = absurd (omega arith)
at_set zero (d ∷ ds) c h = refl
at_set (suc i) (d ∷ ds) c h = at_set i ds c (omega arith)

-- add: one more exactly if c brings a net
pub load_add : (cs : List Connection) (c : Connection) (x : ℕ) → load (cs ++ (c ∷ [])) x ≡ load cs x + bit_of (brings cs c x)
load_add cs c x =
    let l = length-append cs (c ∷ []) in
    load_apart (length cs) (cs ++ (c ∷ [])) x (omega arith)
    ∙ (λ k. load (without-last cs c k) x + bit_of (brings (without-last cs c k) (at_last cs c k) x))

-- move: as a drop and an add at the same place
pub load_set : (i : ℕ) (cs : List Connection) (c : Connection) (x : ℕ) → i < length cs → load (set cs i c) x ≡ load (without i cs) x + bit_of (brings (without i cs) c x)
load_set i cs c x h =
    let l = length-set cs i c in
    load_apart i (set cs i c) x (omega arith)
    ∙ (λ k. load (without-set i cs c k) x + bit_of (brings (without-set i cs c k) (at_set i cs c h k) x))

-- a load fits where the number of connections fits
pub load_most : (cs : List Connection) (x : ℕ) → load cs x ≤ length cs
unfolding load
load_most [] x = omega arith
load_most (c ∷ cs) x = omega (arith, load_most cs x, one_most (brings cs c x))

-- an edit that is accepted, and does not clear the list, changes a load by one at most
pub record Near (a b : ℕ) : Type 0 where
  pub above : a ≤ b + 1
  pub below : b ≤ a + 1

pub load-edited : (n : ℕ) (cs : List Connection) (e : Edit) (x : ℕ) → (e ≡ clear → ⊥) → accepted n cs e ≡ true → Near (load cs x) (load (edited e cs) x)
unfolding edited accepted has_number
load-edited n cs clear x other ok = absurd (other refl)
load-edited n cs (add c) x other ok = let g = load_add cs c x in let m = one_most (brings cs c x) in record { above = omega arith; below = omega arith }
load-edited n cs (drop k) x other ok =
    let h = both (leb 1 k) _ ok in
    let i : k - 1 < length cs = omega (arith, leb-true 1 k h.0, leb-true k (length cs) h.1) in
    let g = load_apart (k - 1) cs x i in
    let m = one_most (brings (without (k - 1) cs) (connection_at cs (k - 1)) x) in
    record { above = omega arith; below = omega arith }
load-edited n cs (move k l r) x other ok =
    let h = both (leb 1 k) _ (and_right (good n l r) _ ok) in
    let i : k - 1 < length cs = omega (arith, leb-true 1 k h.0, leb-true k (length cs) h.1) in
    let c = connection_at cs (k - 1) in
    let g = load_apart (k - 1) cs x i in
    let f = load_set (k - 1) cs (moved c l r) x i in
    let m = one_most (brings (without (k - 1) cs) c x) in
    let q = one_most (brings (without (k - 1) cs) (moved c l r) x) in
    record { above = omega arith; below = omega arith }
