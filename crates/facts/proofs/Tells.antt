-- What a test told, where the code asks `!test`. Assumes nothing.
use mathlib.Core.Path.{◌≡◌, refl}
use mathlib.Core.Bool.{Bool, true, false}
use Rattle.facts.specs.Tells.{Tells}
use Rattle.facts.proofs.Bools.{not-both}

pub told_yes : (A : Type 0) (b : Bool) → Tells b A → b ≡ true → A
told_yes A true t h = t
told_yes A false t h = not-both h refl

pub told_no : (A : Type 0) (b : Bool) → Tells b A → b ≡ false → A → ⊥
told_no A true t h = not-both refl h
told_no A false t h = t
