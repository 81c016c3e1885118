-- The answer to a text, `reply_of`, and what an answer says in document 01's words: for a file that is read and a buffer with room, each of the two
-- tells the other. Assumes nothing.
use mathlib.Core.Path.{◌≡◌, sym, ap, subst, ◌∙◌}
use mathlib.Core.Logic.{inr}
use mathlib.Core.List.{List, [], ◌∷◌, ◌++◌}
use Prim.Native.Nat.{ℕ, ◌≤◌}
use lib.ListN.{length, drop}
use Rattle.std.specs.Prelude.{Result, Ok, Err}
use Rattle.refusals.specs.declared.Refusal.{Refusal}
use Rattle.refusals.specs.Refusal.{number_of}
use Rattle.refusals.specs.Table.{Refuses, Passes}
use Rattle.dimacs.specs.Clause.{Literal, Clause, value_in}
use Rattle.dimacs.specs.Reply.{unsatisfiable, unknown}
use Rattle.dimacs.specs.Model.{holds, Reply, Refused, Accepted, Claimed, Unknown}
use Rattle.dimacs.specs.Refusals.{Says, reply_rows, Means, is_refused, is_accepted, is_claimed, is_unknown}
use Rattle.dimacs.specs.Decision.{reply_of}
use Rattle.dimacs.proofs.Meaning.{reply_means}
use Rattle.dimacs.proofs.Decided.{means_is, accepted_model}
use Rattle.channel.specs.Channel.{Job, M}
use Rattle.channel.specs.Routing.{Routing}
use Rattle.jobfile.specs.Rows.{file_rows, m_of, job_of}
use Rattle.jobfile.specs.Reads.{FileOf}
use Rattle.jobfile.proofs.Exact.{job_is, facts_of, facts_pass}
use Rattle.clauses.specs.Clauses.{clauses, variable_count, spelled}
use Rattle.reply.specs.declared.Answer.{Answer}
use Rattle.reply.specs.declared.Answer.TheVariants as variant
use Rattle.reply.specs.Replies.{reply_call, Replies}
use Rattle.reply.specs.Steps.{labels_by, Answered}
use Rattle.reply.proofs.Rows.{refused_text_lem, passes_text, text_decides}
use Rattle.reply.proofs.Spelling.{labels_route, labels-spell, labels_are}

module _ (n : ℕ) (cs : List Clause) (t : List ℕ) where
  refuses_of : (num p : ℕ) → Means n cs t (Refused num p) → Refuses (reply_rows n cs t) num p
  refuses_of num p (is_refused m q g) = g

  passes_of : (xs : List Literal) → Means n cs t (Accepted xs) → Passes (reply_rows n cs t)
  passes_of xs (is_accepted ys g p) = p

  claims_of : Means n cs t Claimed → Says t (unsatisfiable ∷ []) [] × Passes (reply_rows n cs t)
  claims_of (is_claimed g p) = (g, p)

  unknown_of : Means n cs t Unknown → Says t (unknown ∷ []) [] × Passes (reply_rows n cs t)
  unknown_of (is_unknown g p) = (g, p)

-- what a job's file passes
pub file_passes : (f : List ℕ) (j : Job) → FileOf f j → Passes (file_rows f)
file_passes f j g = facts_pass f (facts_of f j g)

module _ (f t l : List ℕ) (pass : Passes (file_rows f)) (room : m_of f ≤ length l) where
  abbrev j : Job
  j = job_of f

  abbrev n : ℕ
  n = variable_count j

  abbrev cs : List Clause
  cs = clauses j

  means : (a : Reply) → reply_of n cs t ≡ a → Means n cs t a
  means a e = subst (Means n cs t) e (reply_means n cs t)

  -- from the answer to the text
  pub answered_replies : FileOf f j → (r : Result Answer Refusal) (l' : List ℕ) → Answered j t l r l' → Replies f t l r l'
  answered_replies file (Ok variant.Accepted) l' (xs, e, w) =
      let a = accepted_model n cs t xs e in (
        passes_text f (length l) t pass room (passes_of n cs t xs (means (Accepted xs) e)),
        (j, file, (labels_by j (holds xs), labels_route j (holds xs) a.1.all, record { literals = xs; gives = a.0; values = labels-spell j (holds xs) a.1.all }, w)),
      )
  answered_replies file (Ok variant.Claimed) l' (e, w) = let a = claims_of n cs t (means Claimed e) in (passes_text f (length l) t pass room a.1, ((j, file), a.0), w)
  answered_replies file (Ok variant.Unknown) l' (e, w) = let a = unknown_of n cs t (means Unknown e) in (passes_text f (length l) t pass room a.1, ((j, file), a.0), w)
  answered_replies file (Err r) l' (e, w) =
      let num = number_of r.reason in (refused_text_lem f (length l) t pass room num r.place (refuses_of n cs t num r.place (means (Refused num r.place) e)), w)

  text_passes : Passes (reply_call f (length l) t) → Passes (reply_rows n cs t)
  text_passes g x p h = g x p (inr (inr h))

  -- and back
  pub replies_answered : (r : Result Answer Refusal) (l' : List ℕ) → Replies f t l r l' → Answered j t l r l'
  replies_answered (Ok variant.Accepted) l' (p, (i, g, (q, r, s, w))) =
      let e = means_is n cs t (is_accepted s.literals s.gives (text_passes p)) in
      let d = job_is f i g in
      let r' = subst (λ x. Routing x q) d r in
      let y = subst (λ x. l' ≡ q ++ drop (M x) l) d w in
      (s.literals, e, y ∙ ap (λ z. z ++ drop (M j) l) (sym (labels_are j (holds s.literals) q r' (subst (λ x. (v : ℕ) → 1 ≤ v → v ≤ variable_count x → holds s.literals v ≡ value_in (spelled x q) v) d s.values))))
  replies_answered (Ok variant.Claimed) l' (p, (g, s), w) = (means_is n cs t (is_claimed s (text_passes p)), w)
  replies_answered (Ok variant.Unknown) l' (p, (g, s), w) = (means_is n cs t (is_unknown s (text_passes p)), w)
  replies_answered (Err r) l' (g, w) =
      let num = number_of r.reason in (means_is n cs t (is_refused num r.place (text_decides f (length l) t pass room num r.place g)), w)

-- the file and the buffer of an answer that is no refusal
pub settled_file : (f : List ℕ) (j : Job) → FileOf f j → FileOf f (job_of f)
settled_file f j g = subst (FileOf f) (job_is f j g) g
