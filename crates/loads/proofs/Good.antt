-- A list that edits describe has good connections alone, no more than the most, and a mark of each that an edit brought. Assumes nothing.
use mathlib.Core.Path.{◌≡◌, refl}
use mathlib.Core.Bool.{Bool, true, false, cond}
use mathlib.Core.List.{List, [], ◌∷◌}
use Prim.Native.Nat.{ℕ, ◌-◌, ◌≤◌}
use native.Mathlib.Omega.{arith}
use lib.Dec.{leb}
use lib.ListN.{length}
use borrow.Author.Tests.{leb-true}
use Rattle.facts.proofs.Bools.{both, and_left, and_right}
use Rattle.channel.specs.Limits.{most_mark}
use Rattle.channel.specs.Channel.{Connection, connection_at}
use Rattle.channel.specs.Valid.{ConnectionRule, Each}
use Rattle.channel.proofs.Validity.{each_at, each_append, each_set, each_without}
use Rattle.loads.specs.Edits.{Edit, clear, add, drop, move, moved, edited, has_room, good, has_number, accepted, after}

-- the marks that edits bring are bytes
abbrev pub Marked : Edit → Type 0
Marked clear = Unit
Marked (add c) = c.mark ≤ most_mark
Marked (drop k) = Unit
Marked (move k l r) = Unit

module _ (n : ℕ) where
  good_rule : (c : Connection) → good n c.left c.right ≡ true → c.mark ≤ most_mark → ConnectionRule n c
  unfolding good
  good_rule c h m =
      let a = both (leb 1 c.left) _ h in
      let b = both (leb c.left c.right) _ a.1 in
      record { low = leb-true 1 c.left a.0; order = leb-true c.left c.right b.0; high = leb-true c.right n b.1; marked = m }

  edited-good : (e : Edit) (cs : List Connection) → accepted n cs e ≡ true → Marked e → Each (ConnectionRule n) cs → Each (ConnectionRule n) (edited e cs)
  unfolding edited accepted has_number Each connection_at
  edited-good clear cs ok m g = tt
  edited-good (add c) cs ok m g = each_append (ConnectionRule n) cs (c ∷ []) g (good_rule c (and_right (has_room cs) _ ok) m, tt)
  edited-good (drop k) cs ok m g = each_without (ConnectionRule n) (k - 1) cs g
  edited-good (move k l r) cs ok m g =
      let h = both (leb 1 k) _ (and_right (good n l r) _ ok) in
      let c = each_at (ConnectionRule n) cs (record { left = 1; right = 1; mark = 0 }) g (k - 1) (omega (arith, leb-true 1 k h.0, leb-true k (length cs) h.1)) in
      each_set (ConnectionRule n) cs (k - 1) (moved (connection_at cs (k - 1)) l r) g (good_rule (moved (connection_at cs (k - 1)) l r) (and_left (good n l r) _ ok) c.marked)

  step : (b : Bool) (e : Edit) (cs : List Connection) → accepted n cs e ≡ b → Marked e → Each (ConnectionRule n) cs → Each (ConnectionRule n) (cond b (edited e cs) cs)
  step true e cs h m g = edited-good e cs h m g
  step false e cs h m g = g

  -- so the list that edits describe is that of a valid job over n columns, as far as its connections go
  pub after-good : (es : List Edit) (cs : List Connection) → Each Marked es → Each (ConnectionRule n) cs → Each (ConnectionRule n) (after n es cs)
  unfolding after Each
  after-good [] cs m g = g
  after-good (e ∷ es) cs m g = after-good es (cond (accepted n cs e) (edited e cs) cs) m.1 (step (accepted n cs e) e cs refl m.0 g)
