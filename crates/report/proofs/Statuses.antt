-- What a status says: 0 comes with the first routing and only so, 1 only where there is none. Assumes nothing.
use mathlib.Core.Path.{◌≡◌, refl, sym, ap, ◌∙◌}
use mathlib.Core.Bool.{cond}
use mathlib.Core.List.{List, ◌++◌}
use Prim.Native.Nat.{ℕ, ◌*◌, ◌≤◌}
use native.Mathlib.Omega.{arith}
use lib.Dec.{eqb}
use lib.ListN.{length, take}
use lib.Seq.{take_at}
use Rattle.search.specs.Budget.{first, none, undecided}
use Rattle.channel.specs.Channel.{Job, M}
use Rattle.channel.specs.Routing.{Routable, FirstRouting}
use Rattle.channel.specs.Verdict.{Decides, trials_up_to}
use Rattle.jobfile.specs.Reads.{FileOf}
use Rattle.std.specs.Prelude.{Result, Ok}
use Rattle.refusals.specs.declared.Refusal.{Refusal}
use Rattle.rows.specs.Rows.{row_room, rows_text}
use Rattle.rows.specs.Lines.{Lines}
use Rattle.rows.proofs.Laws.{text_is}
use Rattle.report.specs.declared.Status.{Status}
use Rattle.report.specs.declared.Status.TheVariants as status
use Rattle.report.specs.Report.{program_budget, most_input, routed_word, verdict_text, verdict_lines, refused_status, status_number, Prints, too_long, refused, decided}
use Rattle.report.proofs.Prints.{prints_one}

module _ (f : List ℕ) where
  -- status 0 is given only with a routing: the text is `routed`, the need, and the lines of the first legal routing of the file's job
  pub nought_routed : (t : List ℕ) (s : ℕ) → s ≡ 0 → Prints f t s → (j : Job) × (q : List ℕ) × (n : ℕ) × FileOf f j × FirstRouting j q × (n ≡ trials_up_to j q) × (t ≡ verdict_lines j (first q n))
  nought_routed t s e (too_long h) = absurd (omega arith)
  nought_routed t s e (refused num place h r) = absurd (omega arith)
  nought_routed t s e (decided j (first q n) h g d) = (j, q, n, g, d.0, d.1, refl)
  nought_routed t s e (decided j (none n) h g d) = absurd (omega arith)
  nought_routed t s e (decided j (undecided n) h g d) = absurd (omega arith)

  -- and those lines are, byte for byte, what `rows` writes for that routing to a buffer with room for them
  pub nought-lines : (t : List ℕ) (s : ℕ) → s ≡ 0 → Prints f t s
      → (j : Job) × (q : List ℕ) × (n : ℕ) × FileOf f j × FirstRouting j q × (n ≡ trials_up_to j q) × ((old new : List ℕ) (a : Result ℕ Refusal) → M j * row_room ≤ length old → Lines f q old a new → (k : ℕ) × (a ≡ Ok k) × (t ≡ verdict_text routed_word n ++ take k new))
  nought-lines t s e p =
      let (j, q, n, g, r, m, l) = nought_routed t s e p in
      (j, q, n, g, r, m, λ old new a h w. let x = text_is f q old j g r.routing h a new w in (length (rows_text j q (M j)), x.0, l ∙ ap (λ (u : List ℕ). verdict_text routed_word n ++ u) (sym (ap (take (length (rows_text j q (M j)))) x.1 ∙ take_at (rows_text j q (M j)) _ _ refl))))

  -- and where the budget is enough to find a routing the status is 0
  pub routed_nought : (t : List ℕ) (s : ℕ) (j : Job) (q : List ℕ) (n : ℕ) → length f ≤ most_input → FileOf f j → Decides j program_budget (first q n) → Prints f t s → s ≡ 0
  routed_nought t s j q n h g d p = (prints_one f t (verdict_lines j (first q n)) s 0 p (decided j (first q n) h g d)).1

  -- status 1 is given only where the file's job has no routing
  pub one_unroutable : (t : List ℕ) (s : ℕ) → s ≡ 1 → Prints f t s → (j : Job) × FileOf f j × (Routable j → ⊥)
  one_unroutable t s e (too_long h) = absurd (omega arith)
  one_unroutable t s e (refused num place h r) = absurd (omega arith)
  one_unroutable t s e (decided j (first q n) h g d) = absurd (omega arith)
  one_unroutable t s e (decided j (none n) h g d) = (j, g, d.0)
  one_unroutable t s e (decided j (undecided n) h g d) = absurd (omega arith)

  -- no status is above that of a refusal
  pub status_most : (t : List ℕ) (s : ℕ) → Prints f t s → s ≤ refused_status
  status_most t s (too_long h) = omega arith
  status_most t s (refused num place h r) = omega arith
  status_most t s (decided j (first q n) h g d) = omega arith
  status_most t s (decided j (none n) h g d) = omega arith
  status_most t s (decided j (undecided n) h g d) = omega arith

-- the status with a number
status_of_number : ℕ → Status
status_of_number x = cond (eqb x 0) status.Routed (cond (eqb x 1) status.Unroutable (cond (eqb x 2) status.Undecided status.Refused))

status_numbered : (a : Status) → status_of_number (status_number a) ≡ a
unfolding status_of_number
status_numbered status.Routed = refl
status_numbered status.Unroutable = refl
status_numbered status.Undecided = refl
status_numbered status.Refused = refl

-- no two statuses have one number
pub status_one : (a b : Status) → status_number a ≡ status_number b → a ≡ b
status_one a b e = sym (status_numbered a) ∙ ap status_of_number e ∙ status_numbered b
