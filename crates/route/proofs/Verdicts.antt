-- From what a search answers to the verdict on a job. Assumes nothing.
use mathlib.Core.Path.{◌≡◌, refl, sym, ap, ◌∙◌}
use mathlib.Core.Logic.{inl, inr}
use mathlib.Core.List.{List, [], ◌∷◌, ◌++◌, append_assoc}
use Prim.Native.Nat.{ℕ, suc, ◌+◌, ◌-◌, ◌≤◌, ◌<◌}
use native.Mathlib.Nat.{add-zero, zero-add}
use native.Mathlib.Numerals.{add-one}
use native.Mathlib.Omega.{arith}
use lib.ListN.{length, get_or, set, take, drop, take-append-drop}
use lib.Seq.{take-suc, set_at, length-take-le}
use Rattle.search.specs.Tree.{Res, found, dead, place, Settled}
use Rattle.search.specs.Budget.{first, none, undecided}
use Rattle.search.proofs.Settling.{settled}
use Rattle.search.proofs.Budget.{labelled_length}
use Rattle.channel.specs.Channel.{Job, M}
use Rattle.channel.specs.Routing.{routings}
use Rattle.channel.proofs.Budget.{to_decides}
use Rattle.route.specs.declared.Step.TheVariants.{Found, Dead, Spent}
use Rattle.route.specs.declared.Verdict.TheVariants.{Routed, Unroutable, Undecided}
use Rattle.route.specs.Cut.{over, CutTo}
use Rattle.route.specs.Routes.{Judged}
use Rattle.route.proofs.Cut.{size, found_is, dead_is, spent_is}

-- labels written one by one from the last to the first
over_eq : (q l : List ℕ) (i : ℕ) → i + length q ≤ length l → over l i q ≡ take i l ++ (q ++ drop (i + length q) l)
unfolding over
over_eq [] l i h = sym (ap (λ (n : ℕ). take i l ++ drop n l) (add-zero i) ∙ take-append-drop i l)
over_eq (t ∷ q) l i h =
    let e : i + 1 + length q ≡ i + suc (length q) = omega arith in
    let long : length (take i l) ≡ i = length-take-le i l (omega arith) in
    ap (λ z. set z i t)
    (over_eq q l (i + 1) (omega arith)
    ∙ (λ j. take (add-one i j) l ++ (q ++ drop (e j) l))
    ∙ ap (λ z. z ++ (q ++ drop (i + suc (length q)) l)) (take-suc l i 0 (omega arith))
    ∙ append_assoc (take i l) (get_or l i 0 ∷ []) (q ++ drop (i + suc (length q)) l))
    ∙ set_at (take i l) (get_or l i 0) (q ++ drop (i + suc (length q)) l) t i long

module _ (j : Job) (b : ℕ) (l l' : List ℕ) where
  -- all are placed
  pub judge_found : (n : ℕ) → M j ≤ length l → CutTo b 0 (place (routings j) (M j) []) l (Found n) l' → (n ≤ b) × Judged j b l (Routed (b - n)) l'
  judge_found n h a = found_is _ a (λ q k e g v m.
      let s : Settled (routings j) (M j) [] (found q k) = rw e at (settled (routings j) (M j) []) in
      let u : b - n ≡ k = omega arith in
      let long : length q ≡ M j = labelled_length _ (M j) q s.0.labels in
      (omega arith, (q, to_decides j b (first q (b - n)) (s.0, u ∙ s.1, omega arith), m ∙ over_eq q l 0 (omega arith) ∙ ap (λ (x : ℕ). q ++ drop x l) (zero-add (length q) ∙ long))))

  -- none can be
  pub judge_dead : (n : ℕ) → CutTo b 0 (place (routings j) (M j) []) l (Dead n) l' → (n ≤ b) × Judged j b l (Unroutable (b - n)) l'
  judge_dead n a = dead_is _ a (λ k e g v m.
      let s : Settled (routings j) (M j) [] (dead k) = rw e at (settled (routings j) (M j) []) in
      let u : b - n ≡ k = omega arith in
      (omega arith, (to_decides j b (none (b - n)) (s.0, u ∙ s.1, omega arith), m)))

  -- the budget is spent
  spent_of : (o : Res) → Settled (routings j) (M j) [] o → b < size o → l' ≡ l → Judged j b l (Undecided b) l'
  spent_of (found q k) s g m = (to_decides j b (undecided b) ((k, inl (q, s.0, s.1), g), refl), m)
  spent_of (dead k) s g m = (to_decides j b (undecided b) ((k, inr s, g), refl), m)

  pub judge_spent : CutTo b 0 (place (routings j) (M j) []) l Spent l' → Judged j b l (Undecided b) l'
  judge_spent a = let s = spent_is _ a in spent_of (place (routings j) (M j) []) (settled (routings j) (M j) []) s.0 s.1
