-- Rows 6, 7 and 8 by the reading: one law for each way out. Assumes nothing.
use mathlib.Core.Path.{◌≡◌, refl, sym, ap, ◌∙◌}
use mathlib.Core.Bool.{Bool, true, false, cond}
use mathlib.Core.List.{List, ◌++◌}
use Prim.Native.Nat.{ℕ, ◌+◌, ◌≤◌, ◌<◌}
use native.Mathlib.Omega.{arith}
use lib.Dec.{eqb}
use lib.ListN.{get_or, drop}
use Rattle.std.specs.Prelude.{Option, Some, None, Result, Ok, Err}
use Rattle.refusals.specs.declared.Reason.TheVariants as reason
use Rattle.refusals.specs.declared.Refusal.{Refusal}
use Rattle.dimacs.specs.Clause.{Literal, Clause}
use Rattle.dimacs.specs.Decision.{first_false, place7, reply_of, checked}
use Rattle.dimacs.specs.Model.{variables, holds}
use Rattle.dimacs.specs.Model.{Refused as RefusedBy}
use Rattle.dimacs.proofs.Meaning.{checked_8, checked-none}
use Rattle.dimacs.proofs.Values.{first_false_agree}
use Rattle.channel.specs.Channel.{Job, M}
use Rattle.scan.specs.declared.Answer.{Answer as Said}
use Rattle.scan.specs.declared.Answer.TheVariants.{Claimed, Unknown, Sat}
use Rattle.scan.specs.Marks.{Done}
use Rattle.scan.proofs.Answers.{reads_refused, reads_claimed, reads_unknown, reads_wrong, reads_missing, reads_model, ModelMarks}
use Rattle.jobfile.specs.Rows.{job_of}
use Rattle.clauses.specs.Clauses.{clauses, variable_count}
use Rattle.clauses.proofs.Order.{job-within}
use Rattle.model.specs.Codes.{set_in}
use Rattle.reply.specs.declared.Answer.TheVariants as variant
use Rattle.reply.specs.Steps.{Weighs, Answered}
use Rattle.reply.proofs.Spelling.{labels-same}

-- the mark of a variable tells its value
value_is : (b : Bool) (k : ℕ) → k ≡ cond b 1 2 → eqb k 1 ≡ b
value_is true k e = ap (λ z. eqb z 1) e
value_is false k e = ap (λ z. eqb z 1) e

module _ (f text l : List ℕ) (v : ℕ) (count : v ≡ variable_count (job_of f)) (said : Result Said ℕ) (wrong : Option ℕ) (seen : List ℕ) (d : Done text v said wrong seen) where
  abbrev j : Job
  j = job_of f

  abbrev cs : List Clause
  cs = clauses j

  at : reply_of (variable_count j) cs text ≡ reply_of v cs text
  at = ap (λ n. reply_of n cs text) (sym count)

  pub answered_6 : (p : ℕ) → said ≡ Err p → Answered j text l (Err (record { reason = reason.Text; place = p })) l
  answered_6 p e = (at ∙ reads_refused text v said wrong seen d cs p e, refl)

  pub answered_claimed : said ≡ Ok Claimed → Answered j text l (Ok variant.Claimed) l
  answered_claimed e = (at ∙ reads_claimed text v said wrong seen d cs e, refl)

  pub answered_unknown : said ≡ Ok Unknown → Answered j text l (Ok variant.Unknown) l
  answered_unknown e = (at ∙ reads_unknown text v said wrong seen d cs e, refl)

  module _ (k : ℕ) (e : said ≡ Ok (Sat k)) where
    pub answered_wrong : (p : ℕ) → wrong ≡ Some p → Answered j text l (Err (record { reason = reason.Literals; place = p })) l
    answered_wrong p z = (at ∙ reads_wrong text v said wrong seen d cs k e p z, refl)

    module _ (z : wrong ≡ None) where
      pub answered_missing : k < v → Answered j text l (Err (record { reason = reason.Literals; place = k + 1 })) l
      answered_missing h = (at ∙ reads_missing text v said wrong seen d cs k e z h, refl)

      module _ (h : v ≤ k) where
        abbrev found : (ys : List Literal) × (place7 v (variables ys) ≡ 0) × (reply_of v cs text ≡ checked v cs ys) × ModelMarks v seen ys
        found = reads_model text v said wrong seen d cs k e z h

        abbrev xs : List Literal
        xs = found.0

        agree : (u : ℕ) → 1 ≤ u → u ≤ variable_count j → set_in seen u ≡ holds xs u
        agree u p q = value_is (holds xs u) (get_or seen u 0) (found.3.mark u p (let c = count in omega arith))

        first : first_false (set_in seen) 1 cs ≡ first_false (holds xs) 1 cs
        first = first_false_agree (variable_count j) (set_in seen) (holds xs) agree 1 cs (job-within j)

        pub answered_accepted : (l' : List ℕ) → Weighs j (set_in seen) l (Ok tt) l' → Answered j text l (Ok variant.Accepted) l'
        answered_accepted l' (a, b) =
            (xs, at ∙ found.2 ∙ checked-none v cs xs found.1 (sym first ∙ a), b ∙ ap (λ y. y ++ drop (M j) l) (labels-same j (set_in seen) (holds xs) agree))

        pub answered_8 : (r : Refusal) (l' : List ℕ) → Weighs j (set_in seen) l (Err r) l' → Answered j text l (Err r) l'
        answered_8 r l' (a, b, c, w') =
            (at ∙ found.2 ∙ checked_8 v cs xs found.1 (λ y. c (b ∙ first ∙ y)) ∙ (λ y. RefusedBy (sym a y) (sym (b ∙ first) y)), w')
