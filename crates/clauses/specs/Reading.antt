-- Stepping stones: the codes and the labels that an assignment spells. `models` (proofs/Models.antt) says what they are of a model. Assumes nothing: these are definitions.
use Rattle.std.specs.Prelude.{Bool, false, List, [], ◌∷◌, map, ℕ, zero, suc, ◌+◌, ◌*◌, get_or, drop}
use Rattle.facts.specs.Odd.{bit_of}
use Rattle.channel.specs.Channel.{Job, M}
use Rattle.clauses.specs.Clauses.{label_with, width}

-- the number that the first k bits of a list spell; the codes of m connections that an assignment spells, w bits each
unfoldable pub number_in : ℕ → List Bool → ℕ
number_in zero a = 0
number_in (suc k) a = number_in k a * 2 + bit_of (get_or a k false)

unfoldable pub codes_in : ℕ → ℕ → List Bool → List ℕ
codes_in w zero a = []
codes_in w (suc m) a = number_in w a ∷ codes_in w m (drop w a)

-- the labels of codes; the labels that an assignment gives
abbrev pub labels : List ℕ → List ℕ
labels q = map label_with q

abbrev pub labels_in : Job → List Bool → List ℕ
labels_in j a = labels (codes_in (width j) (M j) a)
