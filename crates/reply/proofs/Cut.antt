-- NO CUT MAKES ANOTHER ANSWER, from the contract alone. Of every reply that row 6 does not refuse, answered or refused, each beginning is refused by row 6
-- or answered the same, with the same lent bytes after it. A reply that row 6 refuses at a line: so is each beginning in which that line has ended. And the
-- empty reply is refused by 6, place 0, for every job. Leans on the cut theorem of the language. Assumes nothing.
use mathlib.Core.Path.{◌≡◌, refl, sym, ap, subst, ◌∙◌}
use mathlib.Core.List.{List, []}
use mathlib.Core.Logic.{◌⊎◌, inl, inr}
use Prim.Native.Nat.{ℕ, suc, ◌≤◌}
use native.Mathlib.Omega.{arith}
use native.Mathlib.Decide.{dec_le}
use lib.ListN.{length, take}
use Rattle.std.specs.Prelude.{Result, Ok, Err}
use Rattle.refusals.specs.declared.Reason.TheVariants as reason
use Rattle.refusals.specs.declared.Refusal.{Refusal}
use Rattle.refusals.specs.Refusal.{number_of, RefusedBy}
use Rattle.refusals.specs.Table.{line, Passes}
use Rattle.refusals.proofs.Laws.{printed_order, refusal_one}
use Rattle.dimacs.specs.Clause.{Clause}
use Rattle.dimacs.specs.Reply.{Ended}
use Rattle.dimacs.specs.Decision.{reply_of}
use Rattle.dimacs.proofs.Replies.{RefusedBy6, cut_any, line_reply, empty_reply}
use Rattle.channel.specs.Channel.{Job, M}
use Rattle.jobfile.specs.Rows.{file_rows, m_of, job_of}
use Rattle.jobfile.specs.Reads.{FileOf}
use Rattle.jobfile.proofs.Exact.{job_is, job_numbers, file-before}
use Rattle.clauses.specs.Clauses.{clauses, variable_count}
use Rattle.reply.specs.declared.Answer.{Answer}
use Rattle.reply.specs.declared.Answer.TheVariants as variant
use Rattle.reply.specs.Replies.{reply_call, Replies, by_six, SixOrSame}
use Rattle.reply.proofs.Rows.{text_behind, refused_file, refused_room, text_decides, call_room}
use Rattle.reply.proofs.Bridge.{file_passes, replies_answered}
use Rattle.reply.proofs.Exact.{named, left, replies_is, replies_one}

-- where an answer comes from: from the file and the lent bytes, whatever the text is; or from the text
data Comes (f l : List ℕ) (r : Result Answer Refusal) (l' : List ℕ) : Type 0 where
  before_text : ((u : List ℕ) (s : Result Answer Refusal) (m : List ℕ) → Replies f u l s m → (s ≡ r) × (m ≡ l')) → Comes f l r l'
  by_text : Passes (file_rows f) → m_of f ≤ length l → Comes f l r l'

module _ (f t l : List ℕ) where
  abbrev n : ℕ
  n = variable_count (job_of f)

  abbrev cs : List Clause
  cs = clauses (job_of f)

  module _ (a : Refusal) (l' : List ℕ) (g : RefusedBy (reply_call f (length l) t) a) (e : l' ≡ l) where
    abbrev num : ℕ
    num = number_of a.reason

    abbrev place : ℕ
    place = a.place

    -- no row of the file stands before one that decides behind them
    file-passed : line 9 ≤ line num → Passes (file_rows f)
    file-passed k x p h = let y = g.first x p (inl h) in let z = file-before f x p h in omega arith

    refused_comes : reply_call f (length l) t num place → Comes f l (Err a) l'
    refused_comes (inl h) = before_text (λ u s m x.
        let d = refused_file f (length l) u num place (record { holds = h; first = λ x p k. g.first x p (inl k) }) in
        let b = replies_one f u l s (Err a) m l x (d, refl) in
        (b.0, b.1 ∙ sym e))
    refused_comes (inr (inl h)) = before_text (λ u s m x.
        let c = ap line h.0 in
        let d = refused_room f (length l) u (file-passed (omega arith)) h.1.0 in
        let nine : Refusal = record { reason = reason.Room; place = 0 } in
        let b = replies_one f u l s (Err nine) m l x (d, refl) in
        (b.0 ∙ ap Err (refusal_one nine a (sym h.0) (sym h.1.1)), b.1 ∙ sym e))
    refused_comes (inr (inr h)) =
        let b = (text_behind (line 6) n cs t (omega arith)).at num place h in
        by_text (file-passed (omega (arith, printed_order))) (go b (dec_le (m_of f) (length l)))
      where
        go : line 6 ≤ line num → Dec (m_of f ≤ length l) → m_of f ≤ length l
        go b (yes k) = k
        go b (no k) = absurd (let y = g.first 9 0 (inr (inl (refl, (omega arith, refl)))) in omega (arith, printed_order))

  comes : (r : Result Answer Refusal) (l' : List ℕ) → Replies f t l r l' → Comes f l r l'
  comes (Ok variant.Accepted) l' g = by_text (file_passes f g.1.0 g.1.1) (call_room f (length l) t g.0)
  comes (Ok variant.Claimed) l' g = by_text (file_passes f g.1.0.0 g.1.0.1) (call_room f (length l) t g.0)
  comes (Ok variant.Unknown) l' g = by_text (file_passes f g.1.0.0 g.1.0.1) (call_room f (length l) t g.0)
  comes (Err a) l' g = refused_comes a l' g.0 g.1 g.0.holds

  module _ (k : ℕ) (r : Result Answer Refusal) (l' : List ℕ) (g : Replies f t l r l') (s : Result Answer Refusal) (m : List ℕ) (h : Replies f (take k t) l s m) where
    -- every reply that row 6 does not refuse: each beginning is refused by row 6, or answered the same
    pub reply_cut : ((p : ℕ) → r ≡ by_six p → ⊥) → SixOrSame l r l' s m
    reply_cut other = go (comes r l' g)
      where
        by : Passes (file_rows f) → m_of f ≤ length l → RefusedBy6 n cs t ⊎ (RefusedBy6 n cs (take k t) ⊎ (reply_of n cs (take k t) ≡ reply_of n cs t)) → SixOrSame l r l' s m
        by pass room (inl (p, e)) = absurd (other p ((replies_is f t l pass room r l' g).0 ∙ ap named e))
        by pass room (inr (inl (p, e))) = let b = replies_is f (take k t) l pass room s m h in inl ((p, b.0 ∙ ap named e), b.1 ∙ ap (left (job_of f) l) e)
        by pass room (inr (inr e)) =
            let a = replies_is f t l pass room r l' g in
            let b = replies_is f (take k t) l pass room s m h in
            inr (b.0 ∙ ap named e ∙ sym a.0, b.1 ∙ ap (left (job_of f) l) e ∙ sym a.1)

        go : Comes f l r l' → SixOrSame l r l' s m
        go (before_text x) = inr (x (take k t) s m h)
        go (by_text pass room) = by pass room (cut_any n cs t k)

    -- a refusal by the file or by the lent buffer does not look at the text: each beginning has it
    pub early_cut : (a : Refusal) → r ≡ Err a → line (number_of a.reason) ≤ line 9 → (s ≡ r) × (m ≡ l')
    early_cut a e le = go (comes r l' g)
      where
        go : Comes f l r l' → (s ≡ r) × (m ≡ l')
        go (before_text x) = x (take k t) s m h
        go (by_text pass room) =
            let d = text_decides f (length l) t pass room (number_of a.reason) a.place (subst (λ x. Replies f t l x l') e g).0 in
            let b = (text_behind (line 6) n cs t (omega arith)).at (number_of a.reason) a.place d.holds in
            absurd (omega (arith, printed_order))

    -- a reply that row 6 refuses at a line: each beginning in which the line has ended is refused at it
    pub line_cut : (p : ℕ) → r ≡ by_six (suc p) → Ended (take k t) (suc p) → (s ≡ r) × (m ≡ l')
    line_cut p e en = go (comes r l' g)
      where
        go : Comes f l r l' → (s ≡ r) × (m ≡ l')
        go (before_text x) = x (take k t) s m h
        go (by_text pass room) =
            let a = replies_is f t l pass room r l' g in
            let b = replies_is f (take k t) l pass room s m h in
            let w = (replies_answered f t l pass room (by_six (suc p)) l' (subst (λ x. Replies f t l x l') e g)).0 in
            let c = line_reply n cs t k p w en ∙ sym w in
            (b.0 ∙ ap named c ∙ sym a.0, b.1 ∙ ap (left (job_of f) l) c ∙ sym a.1)

-- the empty reply, for every job
pub empty_refused : (f l : List ℕ) (j : Job) → FileOf f j → M j ≤ length l → (r : Result Answer Refusal) (m : List ℕ) → Replies f [] l r m → (r ≡ by_six 0) × (m ≡ l)
empty_refused f l j file room r m g =
    let e = empty_reply (variable_count (job_of f)) (clauses (job_of f)) in
    let d = ap M (job_is f j file) in
    let b = replies_is f [] l (file_passes f j file) (let k = (job_numbers f).m_is in omega arith) r m g in
    (b.0 ∙ ap named e, b.1 ∙ ap (left (job_of f) l) e)
