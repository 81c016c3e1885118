-- Stepping stones: the codes that a model spells, by the marks of its variables: 1 for a variable that is true, and another mark for one that is false.
-- `walk_finds` (proofs/Meaning.antt) goes from them to the first clause that is false. Assumes nothing: these are definitions.
use Rattle.std.specs.Prelude.{◌≡◌, Bool, List, ℕ, zero, suc, ◌+◌, ◌*◌, ◌<◌, eqb, length, get_or}
use Rattle.facts.specs.Odd.{bit_of}
use Rattle.channel.specs.declared.Code.{Code}
use Rattle.channel.specs.Limits.{most_connections}
use Rattle.channel.specs.Label.{code}

-- the value of a variable by its mark
abbrev pub set_in : List ℕ → ℕ → Bool
set_in marks v = eqb (get_or marks v 0) 1

-- the code that k variables from v on spell, the highest bit first
unfoldable pub code_from : List ℕ → ℕ → ℕ → ℕ
code_from marks v zero = 0
code_from marks v (suc k) = code_from marks v k * 2 + bit_of (set_in marks (v + k))

-- the code of connection i + 1, by number
abbrev pub code_for : List Code → ℕ → ℕ
code_for codes i = (get_or codes i (code 0)).0

-- the codes of m connections, w bits each: bit b of the code of connection i + 1 is variable i × w + b
pub record Codes (marks : List ℕ) (w m : ℕ) (codes : List Code) : Type 0 where
  pub long : length codes ≡ most_connections
  pub at : (i : ℕ) → i < m → code_for codes i ≡ code_from marks (i * w + 1) w
