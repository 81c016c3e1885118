-- The lowest bit of a number. Assumes nothing: these are definitions.
use Rattle.std.specs.Prelude.{Bool, cond, ℕ, ◌%◌, eqb}

-- the lowest bit is 1
abbrev pub odd : ℕ → Bool
odd n = eqb (n % 2) 1

-- a bit as a number
abbrev pub bit_of : Bool → ℕ
bit_of b = cond b 1 0
