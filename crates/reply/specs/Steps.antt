-- Stepping stones: what the inner functions of the entry leave: labels written, row 8, and rows 6 to 8. `answered_replies` (proofs/Bridge.antt) carries it to
-- the public statement. Assumes nothing: these are definitions.
use Rattle.std.specs.Prelude.{◌≡◌, Bool, List, ◌++◌, Result, Ok, Err, ℕ, ◌<◌, length, get_or, drop}
use Rattle.refusals.specs.declared.Refusal.{Refusal}
use Rattle.refusals.specs.Refusal.{number_of}
use Rattle.dimacs.specs.Clause.{Literal}
use Rattle.dimacs.specs.Decision.{assigned, first_false, reply_of}
use Rattle.dimacs.specs.Model.{holds, Refused, Accepted, Claimed, Unknown}
use Rattle.channel.specs.declared.Code.{Code}
use Rattle.channel.specs.Channel.{Job, M}
use Rattle.channel.specs.Label.{code, label_of}
use Rattle.clauses.specs.Clauses.{clauses, variable_count}
use Rattle.clauses.specs.Reading.{labels_in}
use Rattle.reply.specs.declared.Answer.{Answer}
use Rattle.reply.specs.declared.Answer.TheVariants as variant

-- the labels of the first m codes, and the rest as it was
pub record LabelsPut (m : ℕ) (codes : List Code) (old new : List ℕ) : Type 0 where
  pub long : length new ≡ length old
  pub labels : (i : ℕ) → i < m → get_or new i 0 ≡ (label_of (get_or codes i (code 0))).0
  pub rest : drop m new ≡ drop m old

-- the labels of the codes that values of a job's variables spell
abbrev pub labels_by : Job → (ℕ → Bool) → List ℕ
labels_by j σ = labels_in j (assigned (variable_count j) σ)

-- row 8: the first clause that the values σ make false; or their labels
abbrev pub Weighs : Job → (ℕ → Bool) → List ℕ → Result (Unit {0}) Refusal → List ℕ → Type 0
Weighs j σ l (Ok _) l' = (first_false σ 1 (clauses j) ≡ 0) × (l' ≡ labels_by j σ ++ drop (M j) l)
Weighs j σ l (Err r) l' = (number_of r.reason ≡ 8) × (r.place ≡ first_false σ 1 (clauses j)) × (r.place ≡ 0 → ⊥) × (l' ≡ l)

-- rows 6, 7 and 8: the answer to a text, and the labels that its model spells
abbrev pub Answered : Job → List ℕ → List ℕ → Result Answer Refusal → List ℕ → Type 0
Answered j t l (Ok variant.Accepted) l' = (xs : List Literal) × (reply_of (variable_count j) (clauses j) t ≡ Accepted xs) × (l' ≡ labels_by j (holds xs) ++ drop (M j) l)
Answered j t l (Ok variant.Claimed) l' = (reply_of (variable_count j) (clauses j) t ≡ Claimed) × (l' ≡ l)
Answered j t l (Ok variant.Unknown) l' = (reply_of (variable_count j) (clauses j) t ≡ Unknown) × (l' ≡ l)
Answered j t l (Err r) l' = (reply_of (variable_count j) (clauses j) t ≡ Refused (number_of r.reason) r.place) × (l' ≡ l)
