-- Job A of document 01, with room for its lines: the labels 1 2 1 give `1 1 1 1`, `2 2 2 2`, `3 1 2 2`, and the labels 1 1 1 are refused at connection 2.
-- With less room all labels are refused by 9. Assumes nothing.
use mathlib.Core.Path.{◌≡◌, refl, sym, subst}
use mathlib.Core.List.{List, [], ◌∷◌, ◌++◌}
use Prim.Native.Nat.{ℕ, ◌≤◌, ◌<◌}
use lib.ListN.{length, drop}
use Rattle.search.specs.Tree.{Settled}
use Rattle.search.proofs.Settling.{settled}
use Rattle.text.specs.Text.{digits}
use Rattle.channel.specs.Channel.{occupied, occupied_by, numbers_to, left_end, track_at, connection_at}
use Rattle.channel.specs.Worked.{job_a}
use Rattle.channel.specs.Routing.{Routing, routings}
use Rattle.channel.proofs.Says.{to-first}
use Rattle.channel.proofs.Worked.{searched_worked}
use Rattle.jobfile.specs.Reads.{FileOf}
use Rattle.jobfile.proofs.Exact.{facts_of}
use Rattle.jobfile.proofs.Examples.{file_a, file_a_lem, valid_a}
use Rattle.judge.proofs.Worked.{collides_a}
use Rattle.std.specs.Prelude.{Result, Ok, Err}
use Rattle.refusals.specs.declared.Reason.TheVariants as reason
use Rattle.refusals.specs.declared.Refusal.{Refusal}
use Rattle.rows.specs.Rows.{row_text, rows_text}
use Rattle.rows.specs.Lines.{Lines}
use Rattle.rows.proofs.Laws.{by_room, by_judge, text_is}

-- `1 1 1 1`, `2 2 2 2`, `3 1 2 2`
abbrev pub rows_a : List ℕ
rows_a =
    49 ∷ 32 ∷ 49 ∷ 32 ∷ 49 ∷ 32 ∷ 49 ∷ 10
    ∷ 50 ∷ 32 ∷ 50 ∷ 32 ∷ 50 ∷ 32 ∷ 50 ∷ 10
    ∷ 51 ∷ 32 ∷ 49 ∷ 32 ∷ 50 ∷ 32 ∷ 50 ∷ 10 ∷ []

pub rows_a_lem : rows_text (job_a 0) (1 ∷ 2 ∷ 1 ∷ []) 3 ≡ rows_a
unfolding row_text rows_text digits occupied occupied_by numbers_to left_end track_at connection_at
rows_a_lem = refl

of_a : FileOf file_a (job_a 0)
of_a = record { valid = valid_a; file = sym file_a_lem }

routing_a : Routing (job_a 0) (1 ∷ 2 ∷ 1 ∷ [])
routing_a = (to-first (job_a 0) (1 ∷ 2 ∷ 1 ∷ []) (subst (Settled (routings (job_a 0)) 3 []) searched_worked.0 (settled (routings (job_a 0)) 3 [])).0).routing

module _ (old : List ℕ) where
  pub only_a : 48 ≤ length old → (a : Result ℕ Refusal) (new : List ℕ) → Lines file_a (1 ∷ 2 ∷ 1 ∷ []) old a new → (a ≡ Ok 24) × (new ≡ rows_a ++ drop 24 old)
  only_a h a new g = rw rows_a_lem at (text_is file_a (1 ∷ 2 ∷ 1 ∷ []) old (job_a 0) of_a routing_a h a new g)

  pub refused_a : 48 ≤ length old → Lines file_a (1 ∷ 1 ∷ 1 ∷ []) old (Err (record { reason = reason.Routing; place = 2 })) old
  refused_a h = (by_judge file_a (1 ∷ 1 ∷ 1 ∷ []) (length old) h 11 2 collides_a, refl)

  pub short_a : length old < 48 → (q : List ℕ) → Lines file_a q old (Err (record { reason = reason.Room; place = 0 })) old
  short_a h q = (by_room file_a q (length old) (facts_of file_a (job_a 0) of_a) h, refl)
