-- The answer to a reply, exactly: any two answers are equal, and Accepted is given exactly if the file is a job's, the buffer has room, and the
-- reply's literals are a model. Assumes nothing.
use mathlib.Core.Path.{◌≡◌, refl, sym, ap, subst, ◌∙◌}
use mathlib.Core.List.{List, [], ◌∷◌, ◌++◌}
use mathlib.Core.Logic.{◌⊎◌, ◌↔◌, inl, inr, ⊎_elim}
use Prim.Native.Nat.{ℕ, ◌≤◌}
use native.Mathlib.Omega.{arith}
use lib.ListN.{length, drop}
use Rattle.facts.proofs.Bools.{never}
use Rattle.std.specs.Prelude.{Result, Ok, Err}
use Rattle.refusals.specs.declared.Refusal.{Refusal}
use Rattle.refusals.specs.Refusal.{RefusedBy}
use Rattle.refusals.specs.Table.{FirstBroken, Passes}
use Rattle.refusals.proofs.Laws.{passes_or, passes_row, refused_one, reason_of, reason_numbered}
use Rattle.dimacs.specs.Clause.{Literal, Clause, value_in}
use Rattle.dimacs.specs.Reply.{Status, satisfiable, unsatisfiable, unknown, statuses, literals}
use Rattle.dimacs.specs.Model.{holds, Reply, Refused, Accepted, Claimed, Unknown}
use Rattle.dimacs.specs.Refusals.{lines_in, WellFormed, Keeps, Says, GivesModel, reply_rows, Means, is_claimed, is_unknown}
use Rattle.dimacs.specs.Decision.{reply_of}
use Rattle.dimacs.proofs.Meaning.{gives_one}
use Rattle.dimacs.proofs.Decided.{means_is, accepted_model, model_accepted}
use Rattle.channel.specs.Channel.{Job, M}
use Rattle.channel.specs.Routing.{Routing}
use Rattle.jobfile.specs.Rows.{file_rows, m_of, job_of}
use Rattle.jobfile.specs.Reads.{FileOf}
use Rattle.jobfile.proofs.Exact.{job_is, job_numbers}
use Rattle.clauses.specs.Clauses.{clauses, variable_count, spelled}
use Rattle.reply.specs.declared.Answer.{Answer}
use Rattle.reply.specs.declared.Answer.TheVariants as variant
use Rattle.reply.specs.Replies.{reply_call, Spells, Replies, Modelled}
use Rattle.reply.specs.Steps.{labels_by, Answered}
use Rattle.reply.proofs.Rows.{call_room, call_sound}
use Rattle.reply.proofs.Bridge.{file_passes, replies_answered, settled_file}
use Rattle.reply.proofs.Spelling.{labels_are}

-- the answer, and the lent bytes after it, by what is replied to the text
abbrev pub named : Reply → Result Answer Refusal
named (Refused num place) = Err (record { reason = reason_of num; place = place })
named (Accepted xs) = Ok variant.Accepted
named Claimed = Ok variant.Claimed
named Unknown = Ok variant.Unknown

abbrev pub left : Job → List ℕ → Reply → List ℕ
left j l (Refused num place) = l
left j l (Accepted xs) = labels_by j (holds xs) ++ drop (M j) l
left j l Claimed = l
left j l Unknown = l

pub answered_is : (j : Job) (t l : List ℕ) (r : Result Answer Refusal) (l' : List ℕ) → Answered j t l r l' → (r ≡ named (reply_of (variable_count j) (clauses j) t)) × (l' ≡ left j l (reply_of (variable_count j) (clauses j) t))
answered_is j t l (Ok variant.Accepted) l' (xs, e, w) = (sym (ap named e), w ∙ sym (ap (left j l) e))
answered_is j t l (Ok variant.Claimed) l' (e, w) = (sym (ap named e), w ∙ sym (ap (left j l) e))
answered_is j t l (Ok variant.Unknown) l' (e, w) = (sym (ap named e), w ∙ sym (ap (left j l) e))
answered_is j t l (Err r) l' (e, w) = ((λ i. Err (record { reason = sym (reason_numbered r.reason) i; place = r.place })) ∙ sym (ap named e), w ∙ sym (ap (left j l) e))

module _ (f t l : List ℕ) where
  -- where the file and the buffer pass, the answer is what is replied to the text
  pub replies_is : Passes (file_rows f) → m_of f ≤ length l → (r : Result Answer Refusal) (l' : List ℕ) → Replies f t l r l' → (r ≡ named (reply_of (variable_count (job_of f)) (clauses (job_of f)) t)) × (l' ≡ left (job_of f) l (reply_of (variable_count (job_of f)) (clauses (job_of f)) t))
  replies_is pass room r l' g = answered_is (job_of f) t l r l' (replies_answered f t l pass room r l' g)

  via : (j : Job) → FileOf f j → Passes (reply_call f (length l) t) → (r s : Result Answer Refusal) (l' m : List ℕ) → Replies f t l r l' → Replies f t l s m → (r ≡ s) × (l' ≡ m)
  via j file p r s l' m g h =
      let x = replies_is (file_passes f j file) (call_room f (length l) t p) in
      let a = x r l' g in
      let b = x s m h in
      (a.0 ∙ sym b.0, a.1 ∙ sym b.1)

  -- any two answers are equal, and so are the lent bytes after them
  pub replies_one : (r s : Result Answer Refusal) (l' m : List ℕ) → Replies f t l r l' → Replies f t l s m → (r ≡ s) × (l' ≡ m)
  replies_one (Err a) (Err b) l' m g h = (ap Err (refused_one (call_sound f (length l) t) a b g.0 h.0), g.1 ∙ sym h.1)
  replies_one (Err a) (Ok variant.Accepted) l' m g h = absurd (h.0 _ _ g.0.holds)
  replies_one (Err a) (Ok variant.Claimed) l' m g h = absurd (h.0 _ _ g.0.holds)
  replies_one (Err a) (Ok variant.Unknown) l' m g h = absurd (h.0 _ _ g.0.holds)
  replies_one (Ok variant.Accepted) s l' m g h = via g.1.0 g.1.1 g.0 (Ok variant.Accepted) s l' m g h
  replies_one (Ok variant.Claimed) s l' m g h = via g.1.0.0 g.1.0.1 g.0 (Ok variant.Claimed) s l' m g h
  replies_one (Ok variant.Unknown) s l' m g h = via g.1.0.0 g.1.0.1 g.0 (Ok variant.Unknown) s l' m g h

  -- ACCEPTED, exactly
  pub accepted_exactly : (r : Result Answer Refusal) (l' : List ℕ) → Replies f t l r l' → (r ≡ Ok variant.Accepted) ↔ ((j : Job) × FileOf f j × (M j ≤ length l) × Modelled j t)
  accepted_exactly r l' g = (λ e. there (subst (λ x. Replies f t l x l') e g), back)
    where
      there : Replies f t l (Ok variant.Accepted) l' → (j : Job) × FileOf f j × (M j ≤ length l) × Modelled j t
      there h =
          let file = settled_file f h.1.0 h.1.1 in
          let room = call_room f (length l) t h.0 in
          let a = replies_answered f t l (file_passes f (job_of f) file) room (Ok variant.Accepted) l' h in
          let b = accepted_model (variable_count (job_of f)) (clauses (job_of f)) t a.0 a.1 in
          (job_of f, file, (let e = (job_numbers f).m_is in omega arith), record { literals = a.0; gives = b.0; model = b.1 })

      back : (j : Job) × FileOf f j × (M j ≤ length l) × Modelled j t → r ≡ Ok variant.Accepted
      back (j, file, room, m) =
          let d = job_is f j file in
          let m' = subst (λ i. Modelled i t) d m in
          let e = model_accepted (variable_count (job_of f)) (clauses (job_of f)) t m'.literals m'.gives m'.model in
          let few : M (job_of f) ≤ length l = subst (λ i. M i ≤ length l) d room in
          (replies_is (file_passes f j file) (let k = (job_numbers f).m_is in omega arith) r l' g).0 ∙ ap named e

  -- a refusal is given exactly as the table decides
  pub refused_exactly : (r : Result Answer Refusal) (l' : List ℕ) → Replies f t l r l' → (a : Refusal) → (r ≡ Err a) ↔ RefusedBy (reply_call f (length l) t) a
  refused_exactly r l' g a = (λ e. (subst (λ x. Replies f t l x l') e g).0, λ h. (replies_one r (Err a) l' l g (h, refl)).0)

  -- what the text says without a model passes every row of the text
  says_passes : (s : Status) (n : ℕ) (cs : List Clause) → Says t (s ∷ []) [] → ((s ≡ unsatisfiable) ⊎ (s ≡ unknown)) → (s ≡ satisfiable → ⊥) → Passes (reply_rows n cs t)
  says_passes s n cs g k no-model = passes_or (passes_row 6 pass6) (passes_or (passes_row 7 (λ p h. other h.0 h.1)) (passes_row 8 (λ p h. other h.0 h.1)))
    where
      other : (xs : List Literal) → GivesModel t xs → ⊥
      other xs h = no-model (let e : s ∷ [] ≡ satisfiable ∷ [] = sym g.status_lines ∙ h.status_lines in cc)

      keeps : Keeps (s ∷ []) []
      keeps = inr (⊎_elim (λ e. inl (ap (λ x. x ∷ []) e)) (λ e. inr (ap (λ x. x ∷ []) e)) k, refl)

      pass6 : (p : ℕ) → FirstBroken (WellFormed t) p ⊎ ((((i : ℕ) → WellFormed t i) × (Keeps (statuses (lines_in t)) (literals (lines_in t)) → ⊥)) × (p ≡ 0)) → ⊥
      pass6 p (inl b) = b.broken (g.well_formed b.index)
      pass6 p (inr b) = b.0.1 (subst (λ x. Keeps x (literals (lines_in t))) (sym g.status_lines) (subst (Keeps (s ∷ [])) (sym g.value_words) keeps))

  module _ (s : Status) (k : (s ≡ unsatisfiable) ⊎ (s ≡ unknown)) (other : s ≡ satisfiable → ⊥) (a : Reply) (is : (n : ℕ) (cs : List Clause) → Says t (s ∷ []) [] → Passes (reply_rows n cs t) → Means n cs t a) where
    -- a text with such an `s` line is answered by it
    answered_so : (r : Result Answer Refusal) (l' : List ℕ) → Replies f t l r l' → (j : Job) × FileOf f j × (M j ≤ length l) × Says t (s ∷ []) [] → r ≡ named a
    answered_so r l' g (j, file, room, h) =
        let n = variable_count (job_of f) in
        let cs = clauses (job_of f) in
        let few : M (job_of f) ≤ length l = subst (λ i. M i ≤ length l) (job_is f j file) room in
        (replies_is (file_passes f j file) (let m = (job_numbers f).m_is in omega arith) r l' g).0 ∙ ap named (means_is n cs t (is n cs h (says_passes s n cs h k other)))

  -- the file and the buffer of an answer without a model
  room_of : Passes (reply_call f (length l) t) → (j : Job) → FileOf f j → M j ≤ length l
  room_of p j file = let a = call_room f (length l) t p in let b = (job_numbers f).m_is in let c = ap M (job_is f j file) in omega arith

  -- CLAIMED and UNKNOWN, exactly
  pub claimed_exactly : (r : Result Answer Refusal) (l' : List ℕ) → Replies f t l r l' → (r ≡ Ok variant.Claimed) ↔ ((j : Job) × FileOf f j × (M j ≤ length l) × Says t (unsatisfiable ∷ []) [])
  claimed_exactly r l' g = (
    (λ e. let h = subst (λ x. Replies f t l x l') e g in (h.1.0.0, h.1.0.1, room_of h.0 h.1.0.0 h.1.0.1, h.1.1)),
    answered_so unsatisfiable (inl refl) (λ e. never cc) Claimed (λ n cs. is_claimed) r l' g,
  )

  pub unknown_exactly : (r : Result Answer Refusal) (l' : List ℕ) → Replies f t l r l' → (r ≡ Ok variant.Unknown) ↔ ((j : Job) × FileOf f j × (M j ≤ length l) × Says t (unknown ∷ []) [])
  unknown_exactly r l' g = (
    (λ e. let h = subst (λ x. Replies f t l x l') e g in (h.1.0.0, h.1.0.1, room_of h.0 h.1.0.0 h.1.0.1, h.1.1)),
    answered_so unknown (inr refl) (λ e. never cc) Unknown (λ n cs. is_unknown) r l' g,
  )

-- the routing is the only one whose codes the reply's model spells
pub spells_once : (j : Job) (t p q : List ℕ) → Routing j p → Routing j q → Spells j t p → Spells j t q → p ≡ q
spells_once j t p q a b x y =
    let e = gives_one t y.literals x.literals y.gives x.gives in
    sym (labels_are j (holds x.literals) p a x.values)
    ∙ labels_are j (holds x.literals) q b (subst (λ xs. (v : ℕ) → 1 ≤ v → v ≤ variable_count j → holds xs v ≡ value_in (spelled j q) v) e y.values)
