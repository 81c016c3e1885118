-- Stepping stones: a test and what it tells, as the contracts of inner functions say it. `told_yes` and `told_no` (proofs/Tells.antt) read it. Assumes nothing: these are definitions.
use Rattle.std.specs.Prelude.{Bool, true, false}

-- the test tells whether A holds
abbrev pub Tells : Bool → Type 0 → Type 0
Tells true A = A
Tells false A = A → ⊥
