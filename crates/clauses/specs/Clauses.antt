-- Document 01, "Clause lines": the clause list of a job, its models, and the codes of a routing as an assignment. Assumes nothing: these are definitions.
use Rattle.std.specs.Prelude.{◌≡◌, Bool, true, false, ◌&&◌, not, cond, List, [], ◌∷◌, ◌++◌, map, ℕ, zero, suc, ◌+◌, ◌*◌, ◌-◌, ◌/◌, ◌^◌, ◌≤◌, ltb, leb, length}
use Rattle.facts.specs.Odd.{odd}
use Rattle.dimacs.specs.Clause.{Clause, value_in, makes_all}
use Rattle.channel.specs.Channel.{Job, T, M}
use Rattle.channel.specs.Routing.{Rules, rules_of}
use Rattle.channel.specs.Label.{label, code, code_of, label_of}

-- what the clauses rest on: how many tracks and connections, which codes are barred for a connection, and on which codes two connections collide.
-- Connections are counted from 0, tracks are given by their codes
pub record Grid : Type 0 where
  pub tracks : ℕ
  pub connections : ℕ
  pub barred : ℕ → ℕ → Bool
  pub collide : ℕ → ℕ → ℕ → Bool

-- the label of a code, and the code of a label, as numbers
abbrev pub label_with : ℕ → ℕ
label_with c = (label_of (code c)).0

abbrev pub code_with : ℕ → ℕ
code_with l = (code_of (label l)).0

-- the grid of rules, and of a job: clauses carry codes, rules and jobs have labels
abbrev pub grid_by : Rules → Grid
grid_by r = record { tracks = r.tracks; connections = r.connections; barred = λ i c. r.barred i (label_with c); collide = λ h i c. r.collide h i (label_with c) }

abbrev pub grid_of : Job → Grid
grid_of j = grid_by (rules_of j)

-- w is the least whole number with 2 ^ w ≥ t, but at least 1
pub record Width (t w : ℕ) : Type 0 where
  pub some : 1 ≤ w
  pub enough : t ≤ 2 ^ w
  pub least : (v : ℕ) → 1 ≤ v → t ≤ 2 ^ v → w ≤ v

-- the first w from a start on, of so many, with t ≤ 2 ^ w
unfoldable pub seek : ℕ → ℕ → ℕ → ℕ
seek zero w t = w
seek (suc more) w t = let rest = seek more (suc w) t in cond (leb t (2 ^ w)) w rest

-- w for t tracks
unfoldable pub bits_for : ℕ → ℕ
bits_for t = seek t 1 t

-- f 0, then f 1, and so on to f (n − 1)
unfoldable pub join_to : {A : Type 0} → ℕ → (ℕ → List A) → List A
join_to zero f = []
join_to (suc n) f = join_to n f ++ f n

-- x if b, else nothing
unfoldable pub only : {A : Type 0} → Bool → A → List A
only true x = x ∷ []
only false x = []

-- the literals that forbid a code of k bits at the variables from v on, bit 1 the highest: plain where the bit is 0 and negated where it is 1
unfoldable pub forbid : ℕ → ℕ → ℕ → Clause
forbid zero v c = []
forbid (suc k) v c = forbid k v (c / 2) ++ (record { variable = v + k; negated = odd c } ∷ [])

-- connection i + 1 may not have the code c: bit b of its code is variable i × w + b
unfoldable pub bar : ℕ → ℕ → ℕ → Clause
bar w i c = forbid w (i * w + 1) c

module _ (g : Grid) where
  abbrev pub width_of : ℕ
  width_of = bits_for g.tracks

  -- group 1: for each connection, each code from T to 2 ^ w − 1: one clause forbidding it
  unfoldable pub beyond : List Clause
  beyond = join_to g.connections (λ i. join_to (2 ^ width_of - g.tracks) (λ k. bar width_of i (g.tracks + k) ∷ []))

  -- group 2: for each connection, each barred track: one clause forbidding its code
  unfoldable pub bars : List Clause
  bars = join_to g.connections (λ i. join_to g.tracks (λ c. only (g.barred i c) (bar width_of i c)))

  -- two connections, the first before the second, collide on a track that is barred for neither
  abbrev pub meets : ℕ → ℕ → ℕ → Bool
  meets h i c = ltb h i && (g.collide h i c && (not (g.barred h c) && not (g.barred i c)))

  -- group 3: for two connections in order and each track on which they meet: one clause forbidding both codes together, the first's variables first
  unfoldable pub pairs : List Clause
  pairs = join_to g.connections (λ h. join_to g.connections (λ i. join_to g.tracks (λ c. only (meets h i c) (bar width_of h c ++ bar width_of i c))))

  -- all of group 1, then all of group 2, then all of group 3
  unfoldable pub clauses_of : List Clause
  clauses_of = beyond ++ (bars ++ pairs)

-- a job's w, and its clause list
abbrev pub width : Job → ℕ
width j = bits_for (T j)

abbrev pub clauses : Job → List Clause
clauses j = clauses_of (grid_of j)

-- V and C: how many variables and clauses
abbrev pub variable_count : Job → ℕ
variable_count j = M j * width j

abbrev pub clause_count : Job → ℕ
clause_count j = length (clauses j)

-- a model: an assignment of V variables that makes all clauses true
pub record ModelOf (g : Grid) (a : List Bool) : Type 0 where
  pub many : length a ≡ g.connections * width_of g
  pub all : makes_all (value_in a) (clauses_of g) ≡ true

abbrev pub Model : Job → List Bool → Type 0
Model j a = ModelOf (grid_of j) a

-- the k bits of a code, bit 1 the highest
unfoldable pub bits : ℕ → ℕ → List Bool
bits zero c = []
bits (suc k) c = bits k (c / 2) ++ (odd c ∷ [])

-- codes one after the other, w bits each
unfoldable pub spell : ℕ → List ℕ → List Bool
spell w [] = []
spell w (c ∷ q) = bits w c ++ spell w q

-- the codes of labels
abbrev pub codes : List ℕ → List ℕ
codes q = map code_with q

-- the assignment that a routing's labels give: their codes, w bits each
abbrev pub spelled : Job → List ℕ → List Bool
spelled j q = spell (width j) (codes q)
