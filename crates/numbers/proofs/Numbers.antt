-- The twelve numbers, and document 02's: the definitions are run, and what the run means is the law `settled`. Assumes nothing.
use mathlib.Core.Path.{◌≡◌, refl, subst}
use mathlib.Core.Logic.{inl, inr}
use mathlib.Core.List.{List, [], ◌∷◌}
use Prim.Native.Nat.{ℕ, zero, suc, ◌<◌}
use native.Mathlib.Omega.{arith}
use lib.ListN.{get_or}
use Rattle.facts.proofs.Bools.{not-both}
use Rattle.search.specs.Sequences.{Labelled, legal}
use Rattle.search.specs.Tree.{found, dead, place, Settled}
use Rattle.search.proofs.Settling.{settled}
use Rattle.text.specs.Text.{digits}
use Rattle.dimacs.specs.Lines.{literal_text, literals_text, clause_line, clause_text, header_text}
use Rattle.dimacs.specs.ReadBack.{header_line}
use Rattle.channel.specs.Channel.{Job, performance, net, critical, pieces, count_to, any_to, left_end, occupied, taken, too_many, off_performance, barred, share, collide, track_at, connection_at, M}
use Rattle.channel.specs.Routing.{clash_by, routings_by, Routing, routings}
use Rattle.channel.specs.Worked.{job_a, job_b_marked, job_b, job_one}
use Rattle.channel.proofs.Says.{to_routing, of_routing, to-first, to_none}
use Rattle.channel.proofs.Worked.{occupied_worked, searched_worked}
use Rattle.clauses.specs.Clauses.{seek, bits_for, join_to, only, forbid, bar, beyond, bars, pairs, clauses_of}
use Rattle.lines.specs.Lined.{text_of, line_text}
use Rattle.numbers.specs.Twelve.{RoutesFirst, RoutesNone, LinesAre, line1, line2, Twelve, Requested}

by_found : (j : Job) (q : List ℕ) (n : ℕ) → place (routings j) (M j) [] ≡ found q n → RoutesFirst j q n
by_found j q n e =
    let s : Settled (routings j) (M j) [] (found q n) = subst (Settled (routings j) (M j) []) e (settled (routings j) (M j) []) in
    let f = to-first j q s.0 in
    record { routing = f; need = inl (q, f, s.1) }

by_dead : (j : Job) (n : ℕ) → place (routings j) (M j) [] ≡ dead n → RoutesNone j n
by_dead j n e =
    let s : Settled (routings j) (M j) [] (dead n) = subst (Settled (routings j) (M j) []) e (settled (routings j) (M j) []) in
    let f = to_none j s.0 in
    record { none = f; need = inr (f, s.1) }

-- a job without connections is settled at once
empty : (j : Job) (m : ℕ) → m ≡ 0 → place (routings j) m [] ≡ found [] 0
unfolding place
empty j zero e = refl
empty j (suc m) e = absurd (omega arith)

legal_212 : Routing (job_a 0) (2 ∷ 1 ∷ 2 ∷ [])
unfolding Labelled legal routings_by clash_by pieces net barred too_many off_performance performance critical taken count_to any_to occupied left_end share collide track_at connection_at
legal_212 = to_routing (job_a 0) (2 ∷ 1 ∷ 2 ∷ []) (omega arith, omega arith, (omega arith, omega arith, (omega arith, omega arith, tt))) refl

not_111 : Routing (job_a 0) (1 ∷ 1 ∷ 1 ∷ []) → ⊥
unfolding legal routings_by clash_by pieces net barred too_many off_performance performance critical taken count_to any_to occupied left_end share collide track_at connection_at
not_111 r = not-both (of_routing (job_a 0) (1 ∷ 1 ∷ 1 ∷ []) r).1 refl

-- two lines, and none behind them
two-lines : (a b : List ℕ) (f : ℕ → List ℕ) → f 0 ≡ a → f 1 ≡ b → (n : ℕ) → n < 2 → f n ≡ get_or (a ∷ b ∷ []) n []
two-lines a b f p q zero h = p
two-lines a b f p q (suc zero) h = q
two-lines a b f p q (suc (suc n)) h = absurd (omega arith)

one-lines : LinesAre job_one (line1 ∷ line2 ∷ [])
unfolding text_of header_text header_line clause_text clause_line literals_text literal_text digits clauses_of beyond bars pairs join_to only bar forbid bits_for seek pieces net barred too_many off_performance performance critical taken count_to any_to occupied left_end share collide track_at connection_at
one-lines = record { counted = refl; each = two-lines line1 line2 (line_text job_one) refl refl }

pub numbers : Twelve
numbers =
    record {
      n1 = occupied_worked.0;
      n2 = occupied_worked.1;
      n3 = occupied_worked.2;
      n4 = occupied_worked.3;
      n5 = by_found (job_a 0) _ 4 searched_worked.0;
      n6 = legal_212;
      n7 = not_111;
      n8 = by_dead (job_b 2) 10 searched_worked.1;
      n9 = by_dead (job_b 1) 6 searched_worked.2;
      n10 = λ j e. by_found j [] 0 (empty j (M j) e);
      n11 = by_dead (job_a 1) 6 searched_worked.3;
      n12 = by_found job_one _ 1 searched_worked.4;
      n12_lines = one-lines;
    }

pub requested : Requested
requested = record { a1 = by_found (job_b_marked 2 2) _ 4 searched_worked.5 }
