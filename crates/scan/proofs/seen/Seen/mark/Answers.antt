-- `scan::seen::Seen::mark` meets its contract: each way through the tests is a clause of the definition.
use mathlib.Core.Path.{◌≡◌, refl, sym, ap, ◌∙◌}
use mathlib.Core.Bool.{Bool, true, false, cond, not}
use mathlib.Core.List.{List}
use Prim.Native.Nat.{ℕ, ◌≤◌, ◌<◌}
use native.Mathlib.Omega.{arith}
use lib.Dec.{eqb}
use lib.ListN.{get_or, set}
use borrow.Author.Tests.{lt-ltb, le-ltb, ltb-false}
use Rattle.std.specs.Prelude.{Option, Some, None}
use Rattle.std.specs.Option.{is_some}
use Rattle.scan.specs.Seen.{seen_as, marked_by, marked}
use Rattle.scan.proofs.seen.Seen.mark.Goals as goal
use Rattle.scan.proofs.seen.Seen.mark.Goals.{then-variables-v, else-variables-v, then-negated, else-negated}

none_is : (o : Option ℕ) → is_some o ≡ false → o ≡ None
none_is None h = refl
none_is (Some w) h = cc

is_false : (b : Bool) → not b ≡ true → b ≡ false
is_false true h = cc
is_false false h = refl

is_true : (b : Bool) → not b ≡ false → b ≡ true
is_true true h = refl
is_true false h = cc

-- the three outcomes
module _ (a : List ℕ) (p top : ℕ) (n : Bool) (v : ℕ) (o : Option ℕ) where
  stays : is_some o ≡ true → seen_as a o ≡ marked_by a o p top n v
  stays = go o
    where
      go : (z : Option ℕ) → is_some z ≡ true → seen_as a z ≡ marked_by a z p top n v
      go None h = cc
      go (Some w) h = refl

  too_large : o ≡ None → top < v → seen_as a (Some p) ≡ marked_by a o p top n v
  too_large e h = simp (e, lt-ltb top v h)

  seen_before : o ≡ None → v ≤ top → eqb (get_or a v 0) 0 ≡ false → seen_as a (Some p) ≡ marked_by a o p top n v
  seen_before e h k = simp (e, le-ltb top v h, k)

  fresh : o ≡ None → v ≤ top → eqb (get_or a v 0) 0 ≡ true → (x : ℕ) → x ≡ cond n 2 1 → seen_as (set a v x) o ≡ marked_by a o p top n v
  fresh e h k x s = simp (e, s, le-ltb top v h, k)

pub returns-then-self-v-ne0 : goal.returns-then-self-v-ne0
unfolding marked
returns-then-self-v-ne0 c =
    let a = c.args in
    let e = none_is a.self.now.wrong c.if-is_none.ensures in
    elim c.if-variables-v.branch [
      | then-variables-v w ↦ too_large a.self.now.marks a.position a.variables.count a.negated a.v a.self.now.wrong e w.if-variables-v.true
      | else-variables-v w ↦ seen_before a.self.now.marks a.position a.variables.count a.negated a.v a.self.now.wrong e w.if-variables-v.false (is_false _ (sym w.value-is ∙ c.if-self-v-ne0.true))
    ]

pub returns-after-negated : goal.returns-after-negated
unfolding marked
returns-after-negated c =
    let a = c.args in
    let e = none_is a.self.now.wrong c.if-is_none.ensures in
    let s : c.if-negated.self ≡ cond a.negated 2 1 =
    elim c.if-negated.branch [
      | then-negated w ↦ w.self-is ∙ ap (λ z. cond z 2 1) (sym w.if-negated.true)
      | else-negated w ↦ w.self-is ∙ ap (λ z. cond z 2 1) (sym w.if-negated.false)
    ] in
    elim c.if-variables-v.branch [
      | then-variables-v w ↦ let z = ltb-false a.variables.count a.v (sym w.value-is ∙ c.if-self-v-ne0.false) in let y = w.if-variables-v.true in absurd (omega arith)
      | else-variables-v w ↦ fresh a.self.now.marks a.position a.variables.count a.negated a.v a.self.now.wrong e w.if-variables-v.false (is_true _ (sym w.value-is ∙ c.if-self-v-ne0.false)) c.if-negated.self s
    ]

pub returns-else-is_none : goal.returns-else-is_none
unfolding marked
returns-else-is_none c =
    let a = c.args in
    stays a.self.now.marks a.position a.variables.count a.negated a.v a.self.now.wrong c.if-is_none.ensures
