-- Document 01, "Numbers to hold against it": for job A the program prints four lines and ends with 0, for job B `unroutable 10` and with 1. Assumes nothing.
use mathlib.Core.Path.{◌≡◌, refl, sym, ap, subst}
use mathlib.Core.List.{List, [], ◌∷◌, ◌++◌}
use Prim.Native.Nat.{ℕ}
use native.Mathlib.Omega.{arith}
use Rattle.search.specs.Tree.{Settled}
use Rattle.search.specs.Budget.{first, none}
use Rattle.search.proofs.Settling.{settled}
use Rattle.text.specs.Text.{digits}
use Rattle.channel.specs.Worked.{job_a, job_b}
use Rattle.channel.specs.Routing.{routings}
use Rattle.channel.proofs.Budget.{to_decides}
use Rattle.channel.proofs.Worked.{searched_worked}
use Rattle.jobfile.proofs.Examples.{file_a, file_b, file_a_lem, file_b_lem, valid_a, valid_b}
use Rattle.rows.proofs.Worked.{rows_a, rows_a_lem}
use Rattle.report.specs.Report.{program_budget, routed_word, verdict_text, verdict_lines, Prints, decided}
use Rattle.report.proofs.Prints.{prints_one}

-- `routed 4`, then `1 1 1 1`, `2 2 2 2`, `3 1 2 2`
abbrev pub lines_a : List ℕ
lines_a = 114 ∷ 111 ∷ 117 ∷ 116 ∷ 101 ∷ 100 ∷ 32 ∷ 52 ∷ 10 ∷ rows_a

-- `unroutable 10`
abbrev pub lines_b : List ℕ
lines_b = 117 ∷ 110 ∷ 114 ∷ 111 ∷ 117 ∷ 116 ∷ 97 ∷ 98 ∷ 108 ∷ 101 ∷ 32 ∷ 49 ∷ 48 ∷ 10 ∷ []

lines_a_lem : verdict_lines (job_a 0) (first (1 ∷ 2 ∷ 1 ∷ []) 4) ≡ lines_a
unfolding verdict_text digits
lines_a_lem = ap (λ (t : List ℕ). verdict_text routed_word 4 ++ t) rows_a_lem

lines_b_lem : verdict_lines (job_b 2) (none 10) ≡ lines_b
unfolding verdict_text digits
lines_b_lem = refl

pub prints_a : Prints file_a lines_a 0
prints_a =
    subst (λ (t : List ℕ). Prints file_a t 0) lines_a_lem
    (decided (job_a 0) (first (1 ∷ 2 ∷ 1 ∷ []) 4) (omega arith) (record { valid = valid_a; file = sym file_a_lem })
    (to_decides (job_a 0) program_budget (first (1 ∷ 2 ∷ 1 ∷ []) 4) (let s = subst (Settled (routings (job_a 0)) 3 []) searched_worked.0 (settled (routings (job_a 0)) 3 []) in (s.0, s.1, omega arith))))

pub prints_b : Prints file_b lines_b 1
prints_b =
    subst (λ (t : List ℕ). Prints file_b t 1) lines_b_lem
    (decided (job_b 2) (none 10) (omega arith) (record { valid = valid_b; file = sym file_b_lem })
    (to_decides (job_b 2) program_budget (none 10) (let s = subst (Settled (routings (job_b 2)) 3 []) searched_worked.1 (settled (routings (job_b 2)) 3 []) in (s.0, s.1, omega arith))))

-- nothing else is printed for them, and with no other status
pub only_a : (t : List ℕ) (s : ℕ) → Prints file_a t s → (t ≡ lines_a) × (s ≡ 0)
only_a t s p = prints_one file_a t lines_a s 0 p prints_a

pub only_b : (t : List ℕ) (s : ℕ) → Prints file_b t s → (t ≡ lines_b) × (s ≡ 1)
only_b t s p = prints_one file_b t lines_b s 1 p prints_b
