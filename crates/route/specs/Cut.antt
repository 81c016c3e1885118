-- Stepping stones: what a budget makes of a search tree: the contracts of the two functions that search. specs/Routes.antt has the public statement, and
-- `judge_found`, `judge_dead` and `judge_spent` (proofs/Verdicts.antt) lead there. Assumes nothing: these are definitions.
use Rattle.std.specs.Prelude.{◌≡◌, cond, List, [], ◌∷◌, ℕ, ◌+◌, ◌-◌, ◌≤◌, ◌<◌, leb, set}
use Rattle.search.specs.Tree.{Res, found, dead, tries, place}
use Rattle.occupancy.specs.declared.runs.Table.{Table}
use Rattle.marks.specs.Marking.{Inside, marking}
use Rattle.route.specs.declared.Step.{Step}
use Rattle.route.specs.declared.Step.TheVariants.{Found, Dead, Spent}

-- what a budget of b leaves of a search tree: found or dead with what is left of it, or spent
unfoldable pub step_of : ℕ → Res → Step
step_of b (found q k) = cond (leb k b) (Found (b - k)) Spent
step_of b (dead k) = cond (leb k b) (Dead (b - k)) Spent

-- the labels l with those of q from place i on
unfoldable pub over : List ℕ → ℕ → List ℕ → List ℕ
over l i [] = l
over l i (t ∷ q) = set (over l (i + 1) q) i t

-- the labels that it leaves of l
unfoldable pub written : ℕ → ℕ → Res → List ℕ → List ℕ
written b i (found q k) l = cond (leb k b) (over l i q) l
written b i (dead k) l = l

-- the answer r to the search tree o under the budget b from connection i + 1 on, and the labels l' that it leaves of l
pub record CutTo (b i : ℕ) (o : Res) (l : List ℕ) (r : Step) (l' : List ℕ) : Type 0 where
  pub step : r ≡ step_of b o
  pub labels : l' ≡ written b i o l

module _ (r : Table) (i : ℕ) (marks : List ℕ) where
  -- the search tree that the connections from i + 1 on make beside the marks, and what of it is at the tracks labelled l and above
  abbrev pub placing : Res
  placing = place (marking r.runs r.tracks) (r.connections - i) (i, marks)

  abbrev pub trying : ℕ → Res
  trying l = tries (marking r.runs r.tracks) (place (marking r.runs r.tracks) (r.connections - (i + 1))) (r.tracks + 1 - l) l (i, marks)

-- what never changes on the way: the table's runs are among the marks
pub record Laid (r : Table) : Type 0 where
  pub inside : (i l : ℕ) → i < r.connections → 1 ≤ l → l ≤ r.tracks → Inside r.runs i l
