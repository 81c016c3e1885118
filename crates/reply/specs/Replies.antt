-- Document 01, "A solver's reply" and "Replies by number": what is answered to a reply, for every file, every text and every lent buffer.
-- Assumes nothing: these are definitions.
use Rattle.std.specs.Prelude.{◌≡◌, List, [], ◌∷◌, ◌++◌, ◌⊎◌, Result, Ok, Err, ℕ, ◌≤◌, length, drop}
use Rattle.refusals.specs.declared.Reason.TheVariants as reason
use Rattle.refusals.specs.declared.Refusal.{Refusal}
use Rattle.refusals.specs.Refusal.{RefusedBy}
use Rattle.refusals.specs.Table.{Rows, ◌or◌, room_row, Passes}
use Rattle.dimacs.specs.Clause.{Literal, value_in}
use Rattle.dimacs.specs.Reply.{Status, unsatisfiable, unknown}
use Rattle.dimacs.specs.Model.{holds}
use Rattle.dimacs.specs.Refusals.{Says, GivesModel, IsModel, reply_rows}
use Rattle.channel.specs.Channel.{Job, M}
use Rattle.channel.specs.Routing.{Routing}
use Rattle.jobfile.specs.Rows.{file_rows, m_of, job_of}
use Rattle.jobfile.specs.Reads.{FileOf}
use Rattle.clauses.specs.Clauses.{clauses, variable_count, spelled}
use Rattle.reply.specs.declared.Answer.{Answer}
use Rattle.reply.specs.declared.Answer.TheVariants as variant

-- the rows that fit a file f, so many lent bytes and a text t: 1 to 5, 9 for M bytes, and 6, 7, 8 over the job's variables and clauses
abbrev pub reply_call : List ℕ → ℕ → List ℕ → Rows
reply_call f lent t = file_rows f or room_row (m_of f) lent or reply_rows (variable_count (job_of f)) (clauses (job_of f)) t

-- the literals of the reply give each variable 1 to V the value that it has in the codes of the labels q
pub record Spells (j : Job) (t q : List ℕ) : Type 0 where
  pub literals : List Literal
  pub gives : GivesModel t literals
  pub values : (v : ℕ) → 1 ≤ v → v ≤ variable_count j → holds literals v ≡ value_in (spelled j q) v

-- the file is of a job, and the text is well-formed with this `s` line and no `v` line
abbrev pub Answers : List ℕ → List ℕ → Status → Type 0
Answers f t s = ((j : Job) × FileOf f j) × Says t (s ∷ []) []

-- document 01's number and values for each answer to the file f, the text t and the lent bytes l, which are l' afterwards.
-- Accepted: the labels of the legal routing whose codes the reply's model spells, and the rest as it was; any other answer changes no byte
abbrev pub Replies : List ℕ → List ℕ → List ℕ → Result Answer Refusal → List ℕ → Type 0
Replies f t l (Ok variant.Accepted) l' =
    Passes (reply_call f (length l) t) × ((j : Job) × FileOf f j × ((q : List ℕ) × Routing j q × Spells j t q × (l' ≡ q ++ drop (M j) l)))
Replies f t l (Ok variant.Claimed) l' = Passes (reply_call f (length l) t) × Answers f t unsatisfiable × (l' ≡ l)
Replies f t l (Ok variant.Unknown) l' = Passes (reply_call f (length l) t) × Answers f t unknown × (l' ≡ l)
Replies f t l (Err r) l' = RefusedBy (reply_call f (length l) t) r × (l' ≡ l)

-- the text is well-formed with `s SATISFIABLE`, and its literals are a model of the job's clauses
pub record Modelled (j : Job) (t : List ℕ) : Type 0 where
  pub literals : List Literal
  pub gives : GivesModel t literals
  pub model : IsModel (variable_count j) (clauses j) literals

-- an answer s that leaves m, held against an answer r that leaves l': s is a refusal by row 6 and the lent bytes l are as they were, or s is the same and
-- leaves the same
abbrev pub by_six : ℕ → Result Answer Refusal
by_six place = Err (record { reason = reason.Text; place = place })

abbrev pub BySix : List ℕ → Result Answer Refusal → List ℕ → Type 0
BySix l s m = ((place : ℕ) × (s ≡ by_six place)) × (m ≡ l)

abbrev pub SixOrSame : List ℕ → Result Answer Refusal → List ℕ → Result Answer Refusal → List ℕ → Type 0
SixOrSame l r l' s m = BySix l s m ⊎ ((s ≡ r) × (m ≡ l'))
