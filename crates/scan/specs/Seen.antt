-- Stepping stones: row 7 over marks, one for each variable, as the code of `seen` has it. `first_wrong_lem` and `marks_are` (proofs/Agrees.antt) say what the
-- first wrong position and the marks are after the literals of a reply. Assumes nothing: these are definitions.
use Rattle.std.specs.Prelude.{Bool, cond, List, ℕ, ◌+◌, eqb, ltb, get_or, set, Option, Some, None}
use Rattle.scan.specs.declared.line.Lit.{Lit}
use Rattle.scan.specs.declared.line.Lit.TheVariants.{Stop, Var}
use Rattle.scan.specs.declared.tally.Shut.{Shut}
use Rattle.scan.specs.declared.tally.Shut.TheVariants.{Open, Closed, Passed}
use Rattle.scan.specs.declared.tally.Tally.{Tally}
use Rattle.scan.specs.declared.seen.Seen.{Seen}

-- the marks of the variables, 0 for not seen, 1 for plain, 2 for negated, and the first wrong position, if one was met: by its two parts
abbrev pub seen_as : List ℕ → Option ℕ → Seen
seen_as a w = record { marks = a; wrong = w }

-- nothing was wrong so far: wrong at the position p if v is above top or was seen before, and marked if not
abbrev pub marked_by : List ℕ → Option ℕ → ℕ → ℕ → Bool → ℕ → Seen
marked_by a (Some w) p top n v = seen_as a (Some w)
marked_by a None p top n v =
    cond (ltb top v) (seen_as a (Some p))
    (cond (eqb (get_or a v 0) 0) (seen_as (set a v (cond n 2 1)) None)
    (seen_as a (Some p)))

-- one literal more, at the position p and of the variable v: wrong if v is above top or was seen before, and marked if not
unfoldable pub marked : Seen → ℕ → ℕ → Bool → ℕ → Seen
marked s p top n v = marked_by s.marks s.wrong p top n v

-- a literal at the position p, if one ended: it counts as long as no `0` was met
abbrev pub marked_open : Seen → Shut → ℕ → ℕ → Option Lit → Seen
marked_open s shut p top None = s
marked_open s shut p top (Some Stop) = s
marked_open s Open p top (Some (Var n v)) = marked s p top n v
marked_open s Closed p top (Some (Var n v)) = s
marked_open s Passed p top (Some (Var n v)) = s

-- the same, after the literals that were counted
abbrev pub marked_lit : Seen → Tally → ℕ → Option Lit → Seen
marked_lit s t top l = marked_open s t.shut (t.count + 1) top l
