-- A walk passes the columns of a span, and turns the loads of those that no piece reaches. Assumes nothing.
use mathlib.Core.Path.{◌≡◌, sym, ap, ◌∙◌}
use mathlib.Core.Bool.{Bool, false, ◌&&◌}
use mathlib.Core.List.{List}
use Prim.Native.Nat.{ℕ, ◌+◌, ◌-◌, ◌≤◌, ◌<◌}
use native.Mathlib.Omega.{arith}
use lib.Dec.{ltb}
use lib.ListN.{length, set}
use borrow.Author.Tests.{lt-ltb, le-ltb}
use Rattle.state.specs.declared.Way.{Way}
use Rattle.state.specs.State.{loads_at, load_in}
use Rattle.state.specs.Walks.{in_span, furthest, turn, Turned}
use Rattle.state.proofs.Walks.{span_is, span_behind, span_empty, span_next, turned_none, turned_stays, turned_more}

-- the columns from `first` up to x that no piece reaches
abbrev pub free : List ℕ → ℕ → ℕ → ℕ → Bool
free reach first x y = in_span first x y && ltb (furthest reach first (y + 1 - first)) y

pub free_none : (reach : List ℕ) (first : ℕ) (way : Way) (s : List ℕ) → Turned (free reach first first) way s s
free_none reach first way s = turned_none _ way s (λ y low. ap (λ (b : Bool). b && ltb (furthest reach first (y + 1 - first)) y) (span_empty first y))

-- column x more, where the pieces reach `far`
module _ {way : Way} {s s' : List ℕ} (reach : List ℕ) (first x far : ℕ) (low : 1 ≤ x) (at : first ≤ x) (is : far ≡ furthest reach first (x + 1 - first)) (g : Turned (free reach first x) way s s') where
  new : free reach first x x ≡ false
  new = ap (λ (b : Bool). b && ltb (furthest reach first (x + 1 - first)) x) (span_behind first x x (omega arith))

  old : (y : ℕ) → (y ≡ x → ⊥) → free reach first (x + 1) y ≡ free reach first x y
  old y n = ap (λ (b : Bool). b && ltb (furthest reach first (y + 1 - first)) y) (span_next first x y n)

  here : (b : Bool) → ltb far x ≡ b → free reach first (x + 1) x ≡ b
  here b e = (λ i. span_is first (x + 1) x at (omega arith) i && ltb (sym is i) x) ∙ e

  pub free_stays : x ≤ far → Turned (free reach first (x + 1)) way s s'
  free_stays h = turned_stays g (free reach first (x + 1)) x low new old (here _ (le-ltb far x h))

  pub free_turned : far < x → loads_at + x < length s → (v : ℕ) → v ≡ turn way (load_in s' x) → Turned (free reach first (x + 1)) way s (set s' (loads_at + x) v)
  free_turned h room v e = turned_more g (free reach first (x + 1)) x low new old (here _ (lt-ltb far x h)) room v e
