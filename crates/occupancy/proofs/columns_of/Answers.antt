use mathlib.Core.Path.{◌≡◌, refl, ap, ◌∙◌}
use Prim.Native.Nat.{ℕ, ◌+◌, ◌≤◌, ◌<◌}
use native.Mathlib.Omega.{arith}
use lib.ListN.{get_or, set, length-set}
use Rattle.occupancy.specs.Columns.{Over}
use Rattle.occupancy.proofs.Intervals.{rising_some, over-same, over_next, columns_next}
use Rattle.occupancy.proofs.columns_of.Goals as goal
use Rattle.occupancy.proofs.columns_of.Goals.{In-loop-x, then-from-x, else-from-x}

-- in a turn: column x lies in segment k
over : (c : In-loop-x) → Over c.args.ends.now c.loop-x.x c.loop-x.k
over c = c.loop-x.invariant.2 (omega (arith, c.loop-x-test.true, c.from-x-end.ensures))

pub loop-x-init : goal.loop-x-init
loop-x-init c = (omega arith, refl, (λ h. rising_some c.args.n c.args.ends.now h c.requires.rising), λ y l m. absurd (omega arith))

pub bounds-ends-from : goal.bounds-ends-from
bounds-ends-from c = let g = over (goal.at.bounds-ends-from c).In-loop-x in omega (arith, g.inside, c.from.ensures)

pub overflow_add-k : goal.overflow_add-k
overflow_add-k c = let g = over (goal.at.overflow_add-k c).In-loop-x in omega (arith, g.inside, c.requires.ends_len_bound)

pub loop-x-preserved : goal.loop-x-preserved
loop-x-preserved c =
    let l = c.loop-x in
    let es = c.args.ends.now in
    let g = over (goal.at.loop-x-preserved c).In-loop-x in
    let w : c.from-in-loop-x.result ≡ get_or es l.k 0 = c.from-in-loop-x.ensures ∙ ap (λ z. get_or es z 0) c.from.ensures in
    let more : (x : ℕ) → x < l.x + 1 → 1 ≤ x → Over es x (get_or (set l.columns l.x l.k) x 0) = columns_next es l.columns l.x l.k (omega arith) g l.invariant.3 in
    let long = length-set l.columns l.x l.k ∙ l.invariant.1 in
    elim c.if-from-x.branch [
      | then-from-x v ↦ (omega arith, long, (λ h. rw v.k-is (over_next c.args.n es c.requires.rising l.x l.k (omega arith) g (omega (arith, v.if-from-x.true)))), more)
      | else-from-x v ↦ (omega arith, long, (λ h. rw v.k-is (over-same c.args.n es c.requires.rising l.x l.k g (omega (arith, v.if-from-x.false)))), more)
    ]

pub returns : goal.returns
returns c =
    let l = c.loop-x in
    record { rises = c.requires.rising; over = λ x a b. l.invariant.3 x (omega (arith, c.from-x-end.ensures)) a }
