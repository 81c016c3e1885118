-- What an answer says of the text, in document 01's words: `reply_of` refuses exactly as the table's rows 6, 7 and 8 do, first row first,
-- and Accepted, Claimed and Unknown are given where no row holds. Leans on the searches, and on what `settle` keeps. Assumes nothing.
use mathlib.Core.Path.{◌≡◌, refl, sym, ap, subst, ◌∙◌}
use mathlib.Core.Bool.{Bool, true, false, cond}
use mathlib.Core.List.{List, [], ◌∷◌, ◌++◌, map}
use mathlib.Core.Logic.{◌⊎◌, inl, inr}
use Prim.Native.Nat.{ℕ, zero, suc, ◌+◌, ◌≤◌}
use native.Mathlib.Omega.{arith}
use lib.ListN.{length, length-map}
use borrow.Author.Tests.{eq-eqb, ne_eqb}
use Rattle.facts.proofs.Bools.{not-both, never}
use Rattle.refusals.specs.Table.{FirstBroken, Refuses, Passes}
use Rattle.refusals.proofs.Laws.{behind_row, behind_or, refuses_row, refuses_left, refuses_right, passes_row, passes_or, printed_order}
use Rattle.dimacs.specs.Clause.{Literal, Clause}
use Rattle.dimacs.specs.Decision.{first_false, first_bad, Parsed, Refused6, Sat, Unsat, Unsure, settle, bad_first, judged, answer_of, accepts, first_wrong, all_there, place7, checked, replied, reply_of}
use Rattle.dimacs.specs.Reply.{Word, stop, lit, Status, satisfiable, unsatisfiable, unknown, statuses, literals, closed}
use Rattle.dimacs.specs.Model.{before_nought, variables, among, holds, Reply, Refused, Accepted}
use Rattle.dimacs.specs.Refusals.{lines_in, WellFormed, Keeps, GivesModel, Fits, Missing, Unfit, MadeTrue, IsModel, row6, row7, row8, reply_rows, Means, is_refused, is_accepted, is_claimed, is_unknown}
use Rattle.dimacs.proofs.Searches.{From, searched_all, searched_broken, bad_searched, false_searched, wrong_searched, all_there_lem, one_missing, false-none, true-none}

-- closed words are literals and then `0`
pub closed_is : (ws : List Word) → closed ws ≡ true → ws ≡ map lit (before_nought ws) ++ (stop ∷ [])
unfolding closed before_nought
closed_is [] h = not-both h refl
closed_is (stop ∷ []) h = refl
closed_is (stop ∷ w ∷ ws) h = not-both h refl
closed_is (lit l ∷ ws) h = ap (λ z. lit l ∷ z) (closed_is ws h)

pub is_closed : (xs : List Literal) → closed (map lit xs ++ (stop ∷ [])) ≡ true
unfolding closed
is_closed [] = refl
is_closed (x ∷ xs) = is_closed xs

pub before_nought_is : (xs : List Literal) → before_nought (map lit xs ++ (stop ∷ [])) ≡ xs
unfolding before_nought
before_nought_is [] = refl
before_nought_is (x ∷ xs) = ap (λ z. x ∷ z) (before_nought_is xs)

-- a text gives one list of literals
pub gives_one : (t : List ℕ) (xs ys : List Literal) → GivesModel t xs → GivesModel t ys → xs ≡ ys
gives_one t xs ys g h = sym (before_nought_is xs) ∙ ap before_nought (sym g.value_words ∙ h.value_words) ∙ before_nought_is ys

-- a search that finds no place
searched_none : {Rule : ℕ → Type 0} {r : ℕ} → From Rule 1 r → ((k : ℕ) → FirstBroken Rule k → ⊥) → r ≡ 0
searched_none {r = zero} s n = refl
searched_none {r = suc k} s n = absurd (n (suc k) (searched_broken s (λ e. absurd (omega arith))))

-- the rules on `s`, `v` and `0`, by what they come to
abbrev pub Settled : List Status → List Word → Parsed → Type 0
Settled ss ws (Refused6 p) = p ≡ 0
Settled ss ws (Sat zs) = (ss ≡ satisfiable ∷ []) × (ws ≡ zs) × (closed zs ≡ true)
Settled ss ws Unsat = (ss ≡ unsatisfiable ∷ []) × (ws ≡ [])
Settled ss ws Unsure = (ss ≡ unknown ∷ []) × (ws ≡ [])

pub settled : (ss : List Status) (ws : List Word) → Settled ss ws (settle ss ws)
unfolding settle
settled [] ws = refl
settled (satisfiable ∷ []) ws = go (closed ws) refl
  where
    go : (x : Bool) → closed ws ≡ x → Settled (satisfiable ∷ []) ws (cond x (Sat ws) (Refused6 0))
    go true e = (refl, refl, e)
    go false e = refl
settled (unsatisfiable ∷ []) [] = (refl, refl)
settled (unsatisfiable ∷ []) (w ∷ ws) = refl
settled (unknown ∷ []) [] = (refl, refl)
settled (unknown ∷ []) (w ∷ ws) = refl
settled (s ∷ s' ∷ ss) ws = refl

-- what keeps them is not refused
keeps_accepts : (ss : List Status) (ws : List Word) → Keeps ss ws → accepts (settle ss ws) ≡ true
unfolding settle accepts
keeps_accepts ss ws (inl k) = rw (k.0, k.1.1) (simp (is_closed k.1.0))
keeps_accepts ss ws (inr (inl e, f)) = rw (e, f) refl
keeps_accepts ss ws (inr (inr e, f)) = rw (e, f) refl

-- rows 7 and 8, by their searches
module _ (n : ℕ) (vs : List ℕ) where
  pub place7_wrong : (first_wrong n [] 1 vs ≡ 0 → ⊥) → place7 n vs ≡ first_wrong n [] 1 vs
  unfolding place7
  place7_wrong z = simp (ne_eqb (first_wrong n [] 1 vs) 0 z)

  pub place7_missing : first_wrong n [] 1 vs ≡ 0 → all_there n vs ≡ false → place7 n vs ≡ length vs + 1
  unfolding place7
  place7_missing e f = simp (eq-eqb (first_wrong n [] 1 vs) 0 e, f)

  pub place7-none : first_wrong n [] 1 vs ≡ 0 → all_there n vs ≡ true → place7 n vs ≡ 0
  unfolding place7
  place7-none e f = simp (eq-eqb (first_wrong n [] 1 vs) 0 e, f)

module _ (n : ℕ) (cs : List Clause) (xs : List Literal) where
  pub checked_7 : (p : ℕ) → place7 n (variables xs) ≡ p → (p ≡ 0 → ⊥) → checked n cs xs ≡ Refused 7 p
  unfolding checked
  checked_7 p e z = rw e (simp (ne_eqb p 0 z))

  pub checked_8 : place7 n (variables xs) ≡ 0 → (first_false (holds xs) 1 cs ≡ 0 → ⊥) → checked n cs xs ≡ Refused 8 (first_false (holds xs) 1 cs)
  unfolding checked
  checked_8 e z = simp (eq-eqb (place7 n (variables xs)) 0 e, ne_eqb (first_false (holds xs) 1 cs) 0 z)

  pub checked-none : place7 n (variables xs) ≡ 0 → first_false (holds xs) 1 cs ≡ 0 → checked n cs xs ≡ Accepted xs
  unfolding checked
  checked-none e f = simp (eq-eqb (place7 n (variables xs)) 0 e, eq-eqb (first_false (holds xs) 1 cs) 0 f)

module _ (n : ℕ) (cs : List Clause) (t : List ℕ) where
  abbrev ss : List Status
  ss = statuses (lines_in t)

  abbrev ws : List Word
  ws = literals (lines_in t)

  by_6 : (p : ℕ) → row6 t 6 p → Refuses (reply_rows n cs t) 6 p
  by_6 p h = refuses_left (refuses_row 6 p h.1) (behind_or (behind_row (omega (arith, printed_order))) (behind_row (omega (arith, printed_order))))

  by_7 : (p : ℕ) → Passes (row6 t) → row7 n t 7 p → Refuses (reply_rows n cs t) 7 p
  by_7 p q h = refuses_right q (refuses_left (refuses_row 7 p h.1) (behind_row (omega (arith, printed_order))))

  by_8 : (p : ℕ) → Passes (row6 t) → Passes (row7 n t) → row8 cs t 8 p → Refuses (reply_rows n cs t) 8 p
  by_8 p q r h = refuses_right q (refuses_right r (refuses_row 8 p h.1))

  pass_6 : ((i : ℕ) → WellFormed t i) → Keeps ss ws → Passes (row6 t)
  pass_6 wf k = passes_row 6 go
    where
      go : (p : ℕ) → FirstBroken (WellFormed t) p ⊎ ((((i : ℕ) → WellFormed t i) × (Keeps ss ws → ⊥)) × (p ≡ 0)) → ⊥
      go p (inl b) = b.broken (wf b.index)
      go p (inr b) = b.0.1 k

  -- without `s SATISFIABLE` neither 7 nor 8 holds
  pass_all : ((i : ℕ) → WellFormed t i) → Keeps ss ws → (ss ≡ satisfiable ∷ [] → ⊥) → Passes (reply_rows n cs t)
  pass_all wf k no-model = passes_or (pass_6 wf k) (passes_or (passes_row 7 (λ p h. no-model h.1.status_lines)) (passes_row 8 (λ p h. no-model h.1.status_lines)))

  module _ (xs : List Literal) (g : GivesModel t xs) where
    pass_6' : Passes (row6 t)
    pass_6' = pass_6 g.well_formed (inl (g.status_lines, (xs, g.value_words)))

    pass_7 : ((i : ℕ) → Fits n (variables xs) i) → (Missing n (variables xs) → ⊥) → Passes (row7 n t)
    pass_7 f m = passes_row 7 (λ p h. go p (subst (λ z. Unfit n z p) (gives_one t h.0 xs h.1 g) h.2))
      where
        go : (p : ℕ) → Unfit n xs p → ⊥
        go p (inl b) = b.broken (f b.index)
        go p (inr b) = m b.1

    pass_8 : ((i : ℕ) → MadeTrue (holds xs) cs i) → Passes (row8 cs t)
    pass_8 f = passes_row 8 (λ p h. h.2.broken (subst (λ z. MadeTrue (holds z) cs h.2.index) (gives_one t xs h.0 g h.1) (f h.2.index)))

    not_missing : ((v : ℕ) → 1 ≤ v → v ≤ n → among v (variables xs) ≡ true) → Missing n (variables xs) → ⊥
    not_missing f m = not-both (f m.0 m.1 m.2) m.3

    -- a model is refused by no row
    pub model_passes : IsModel n cs xs → Passes (reply_rows n cs t)
    model_passes m = passes_or pass_6' (passes_or (pass_7 m.fits (not_missing m.each)) (pass_8 (searched_all (false_searched (holds xs) cs) (true-none (holds xs) 1 cs m.all))))

    -- and what is refused by no row is one: none of the three searches finds a place
    module _ (p : Passes (reply_rows n cs t)) where
      pub none_wrong : first_wrong n [] 1 (variables xs) ≡ 0
      none_wrong = searched_none (wrong_searched n (variables xs)) (λ k b. p 7 k (inr (inl (refl, (xs, g, inl b)))))

      pub none_missing : all_there n (variables xs) ≡ true
      none_missing = go (all_there n (variables xs)) refl
        where
          go : (a : Bool) → all_there n (variables xs) ≡ a → a ≡ true
          go true e = refl
          go false e = absurd (p 7 (length xs + 1) (inr (inl (refl, (xs, g, inr (searched_all (wrong_searched n (variables xs)) none_wrong, one_missing n (variables xs) e, refl))))))

      pub passed_model : IsModel n cs xs
      passed_model =
          record {
            fits = searched_all (wrong_searched n (variables xs)) none_wrong;
            each = all_there_lem n (variables xs) none_missing;
            all = false-none (holds xs) 0 cs (searched_none (false_searched (holds xs) cs) (λ k b. p 8 k (inr (inr (refl, (xs, g, b))))));
          }

    checked_means : Means n cs t (checked n cs xs)
    checked_means = go7 (first_wrong n [] 1 (variables xs)) refl (all_there n (variables xs)) refl
      where
        at : {a b : Reply} → a ≡ b → Means n cs t b → Means n cs t a
        at e m = subst (Means n cs t) (sym e) m

        go8 : Passes (row7 n t) → place7 n (variables xs) ≡ 0 → (f : ℕ) → first_false (holds xs) 1 cs ≡ f → Means n cs t (checked n cs xs)
        go8 q e zero f = at (checked-none n cs xs e f) (is_accepted xs g (passes_or pass_6' (passes_or q (pass_8 (searched_all (false_searched (holds xs) cs) f)))))
        go8 q e (suc k) f =
            let z : first_false (holds xs) 1 cs ≡ 0 → ⊥ = λ d. absurd (omega (arith, f, d)) in
            at (checked_8 n cs xs e z) (is_refused 8 _ (by_8 _ pass_6' q (refl, (xs, g, searched_broken (false_searched (holds xs) cs) z))))

        go7 : (w : ℕ) → first_wrong n [] 1 (variables xs) ≡ w → (a : Bool) → all_there n (variables xs) ≡ a → Means n cs t (checked n cs xs)
        go7 (suc w) e a f =
            let z : first_wrong n [] 1 (variables xs) ≡ 0 → ⊥ = λ d. absurd (omega (arith, e, d)) in
            at (checked_7 n cs xs _ (place7_wrong n (variables xs) z) z) (is_refused 7 _ (by_7 _ pass_6' (refl, (xs, g, inl (searched_broken (wrong_searched n (variables xs)) z)))))
        go7 zero e false f =
            at (checked_7 n cs xs _ (place7_missing n (variables xs) e f) (λ d. absurd (omega (arith, d))))
            (is_refused 7 _ (by_7 _ pass_6' (refl, (xs, g, inr (searched_all (wrong_searched n (variables xs)) e, one_missing n (variables xs) f, ap (λ k. k + 1) (length-map xs (λ x. x.variable)))))))
        go7 zero e true f = go8 (pass_7 (searched_all (wrong_searched n (variables xs)) e) (not_missing (all_there_lem n (variables xs) f))) (place7-none n (variables xs) e f) (first_false (holds xs) 1 cs) refl

  module _ (wf : (i : ℕ) → WellFormed t i) where
    settled_means : (a : Parsed) → settle ss ws ≡ a → Settled ss ws a → Means n cs t (replied n cs a)
    unfolding replied accepts
    settled_means (Refused6 p) e z =
        subst (λ q. Means n cs t (Refused 6 q)) (sym z)
        (is_refused 6 0 (by_6 0 (refl, inr ((wf, λ k. not-both (keeps_accepts ss ws k) (ap accepts e)), refl))))
    settled_means (Sat zs) e h = checked_means (before_nought zs) (record { well_formed = wf; status_lines = h.0; value_words = h.1 ∙ closed_is zs h.2 })
    settled_means Unsat e h = is_claimed (record { well_formed = wf; status_lines = h.0; value_words = h.1 }) (pass_all wf (inr (inl h.0, h.1)) (λ d. never cc))
    settled_means Unsure e h = is_unknown (record { well_formed = wf; status_lines = h.0; value_words = h.1 }) (pass_all wf (inr (inr h.0, h.1)) (λ d. never cc))

  -- THE MEANING OF AN ANSWER
  pub reply_means : Means n cs t (reply_of n cs t)
  unfolding reply_of answer_of judged bad_first replied
  reply_means = go (first_bad 1 (lines_in t)) refl
    where
      go : (b : ℕ) → first_bad 1 (lines_in t) ≡ b → Means n cs t (replied n cs (bad_first b (settle ss ws)))
      go zero e = settled_means (searched_all (bad_searched (lines_in t)) e) (settle ss ws) refl (settled ss ws)
      go (suc b) e = is_refused 6 (suc b) (by_6 (suc b) (refl, inl (subst (FirstBroken (WellFormed t)) e (searched_broken (bad_searched (lines_in t)) (λ d. absurd (omega (arith, e, d)))))))
