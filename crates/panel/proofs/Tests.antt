-- The tests of an edit, as the code asks them. Assumes nothing.
use mathlib.Core.Path.{◌≡◌, sym, ap, subst, ◌∙◌}
use mathlib.Core.Bool.{◌&&◌}
use mathlib.Core.List.{List}
use Prim.Native.Nat.{ℕ}
use lib.Dec.{leb, ltb}
use lib.ListN.{length}
use Rattle.refusals.specs.declared.Refusal.{Refusal}
use Rattle.refusals.specs.Table.{Rows}
use Rattle.refusals.specs.Refusal.{RefusedBy}
use Rattle.channel.specs.Limits.{most_connections}
use Rattle.loads.specs.Edits.{has_room, has_number}
use Rattle.jobfile.proofs.Decode.{tab-length}
use Rattle.state.specs.State.{m_in, connection_in, list_in}

-- what is refused as a row of the table is
pub refused : {R : Rows} {r : Refusal} (x : Refusal) → r ≡ x → RefusedBy R x → RefusedBy R r
refused {R} x e g = subst (λ (y : Refusal). RefusedBy R y) (sym e) g

-- the tests of a list, by the number of its connections
module _ (s : List ℕ) (m : ℕ) (size : m ≡ m_in s) where
  pub size_is : length (list_in s) ≡ m
  size_is = tab-length (connection_in s) (m_in s) 0 ∙ sym size

  pub room_is : has_room (list_in s) ≡ ltb m most_connections
  unfolding has_room
  room_is = ap (λ (n : ℕ). ltb n most_connections) size_is

  pub there_is : (k : ℕ) → has_number (list_in s) k ≡ (leb 1 k && leb k m)
  unfolding has_number
  there_is k = ap (λ (n : ℕ). leb 1 k && leb k n) size_is
