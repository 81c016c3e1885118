use mathlib.Core.Path.{◌≡◌, refl, sym, ap, ◌∙◌}
use mathlib.Core.Bool.{Bool, true, false}
use Prim.Native.Nat.{◌+◌, ◌*◌}
use native.Mathlib.Omega.{arith}
use mir.Val.{bool_byte}
use lib.Dec.{eqb}
use Rattle.std.proofs.lemmas.List.{get_or-take, get_or-drop}
use Rattle.facts.specs.Odd.{bit_of}
use Rattle.clauses.proofs.Joins.{bit_le}
use Rattle.model.specs.Codes.{code_from, set_in}
use Rattle.model.proofs.Coding.{code_next, code-room}
use Rattle.model.proofs.code_at.Goals as goal
use Rattle.model.proofs.code_at.Goals.{After-from}

bit_is : (b : Bool) → bool_byte b ≡ bit_of b
bit_is true = refl
bit_is false = refl

-- the mark of this turn is that of variable v + k
bit : (w : After-from) → w.from.result ≡ bit_of (set_in w.args.marks.now (w.args.v + w.loop-mark.mark-index))
bit w =
    let a = w.args in let k = w.loop-mark.mark-index in
    w.from.ensures ∙ ap (λ x. bool_byte (eqb x 1)) (get_or-take _ _ k 0 (omega arith) ∙ get_or-drop a.v a.marks.now k 0) ∙ bit_is (set_in a.marks.now (a.v + k))

pub loop-mark-init : goal.loop-mark-init
unfolding code_from
loop-mark-init c = refl

-- six bits have room in a byte
pub overflow_mul-code : goal.overflow_mul-code
overflow_mul-code c = let a = c.args in omega (arith, c.loop-mark.invariant, code-room a.marks.now a.v c.loop-mark.mark-index (omega arith))

pub overflow_add-code : goal.overflow_add-code
overflow_add-code c =
    let a = c.args in let k = c.loop-mark.mark-index in
    omega (arith, c.loop-mark.invariant, code-room a.marks.now a.v k (omega arith), bit (goal.at.overflow_add-code c).After-from, bit_le (set_in a.marks.now (a.v + k)))

pub loop-mark-preserved : goal.loop-mark-preserved
loop-mark-preserved c =
    let a = c.args in let k = c.loop-mark.mark-index in
    (λ z. c.loop-mark.invariant z * 2 + bit (goal.at.loop-mark-preserved c).After-from z) ∙ sym (code_next a.marks.now a.v k)
