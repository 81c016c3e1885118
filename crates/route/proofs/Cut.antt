-- Laws of a budget's cut through a search tree: what a trial answers from what lies below it and after it. Assumes nothing.
use mathlib.Core.Path.{◌≡◌, refl, sym, ap, subst, ◌∙◌}
use mathlib.Core.Bool.{Bool, true, false, cond}
use mathlib.Core.Logic.{◌⊎◌, inl, inr, ⊎_elim}
use mathlib.Core.List.{List, [], ◌∷◌}
use Prim.Native.Nat.{ℕ, suc, ◌+◌, ◌-◌, ◌≤◌, ◌<◌}
use native.Mathlib.Numerals.{add-one}
use native.Mathlib.Omega.{arith}
use lib.Dec.{leb}
use lib.ListN.{set}
use borrow.Author.Tests.{le-leb, lt-leb, leb-true, leb-false}
use Rattle.facts.proofs.Bools.{never}
use Rattle.search.specs.Sequences.{Space}
use Rattle.search.specs.Tree.{Res, found, dead, plus, graft, branch, tries, place}
use Rattle.route.specs.declared.Step.{Step}
use Rattle.route.specs.declared.Step.TheVariants.{Found, Dead, Spent}
use Rattle.route.specs.Cut.{step_of, over, written, CutTo}

-- the trials that a search tree takes
abbrev pub size : Res → ℕ
size (found q k) = k
size (dead k) = k

size-plus : (c : ℕ) (o : Res) → size (plus c o) ≡ c + size o
unfolding plus
size-plus c (found q k) = refl
size-plus c (dead k) = refl

-- a trial that fits takes those below it and itself
size_below : (t : ℕ) (sub rest : Res) → size sub < size (branch true t sub rest)
unfolding branch graft
size_below t (found q k) rest = omega arith
size_below t (dead k) rest = omega (arith, size-plus (1 + k) rest)

size-branch : (x : Bool) (t : ℕ) (sub rest : Res) → 0 < size (branch x t sub rest)
unfolding branch
size-branch true t sub rest = omega (arith, size_below t sub rest)
size-branch false t sub rest = omega (arith, size-plus 1 rest)

-- each answer from the tree and the budget
pub found_says : (b i n k : ℕ) (q l : List ℕ) → k ≤ b → n ≡ b - k → CutTo b i (found q k) l (Found n) (over l i q)
unfolding step_of written
found_says b i n k q l h e = let y = sym (le-leb k b h) in record { step = ap Found e ∙ (λ j. cond (y j) (Found (b - k)) Spent); labels = λ j. cond (y j) (over l i q) l }

pub dead_says : (b i n k : ℕ) (l : List ℕ) → k ≤ b → n ≡ b - k → CutTo b i (dead k) l (Dead n) l
unfolding step_of written
dead_says b i n k l h e = record { step = ap Dead e ∙ (λ j. cond (sym (le-leb k b h) j) (Dead (b - k)) Spent); labels = refl }

pub spent_says : (b i : ℕ) (o : Res) (l : List ℕ) → b < size o → CutTo b i o l Spent l
unfolding step_of written
spent_says b i (found q k) l h = let y = sym (lt-leb k b h) in record { step = λ j. cond (y j) (Found (b - k)) Spent; labels = λ j. cond (y j) (over l i q) l }
spent_says b i (dead k) l h = record { step = λ j. cond (sym (lt-leb k b h) j) (Dead (b - k)) Spent; labels = refl }

-- and what each says of them
paid : (b k : ℕ) {r y : Step} → r ≡ cond (leb k b) y Spent → ((k ≤ b) × (r ≡ y)) ⊎ ((b < k) × (r ≡ Spent))
paid b k {r} {y} = go (leb k b) refl
  where
    go : (x : Bool) → leb k b ≡ x → r ≡ cond x y Spent → ((k ≤ b) × (r ≡ y)) ⊎ ((b < k) × (r ≡ Spent))
    go true h e = inl (leb-true k b h, e)
    go false h e = inr (leb-false k b h, e)

pub found_is : {b i n : ℕ} (o : Res) {l l' : List ℕ} {X : Type 0} → CutTo b i o l (Found n) l' → ((q : List ℕ) (k : ℕ) → o ≡ found q k → k ≤ b → n ≡ b - k → l' ≡ over l i q → X) → X
unfolding step_of written
found_is {b} {i} {n} (found q k) {l} {l'} a f =
    ⊎_elim (λ w. f q k refl w.0 (cc) (a.labels ∙ ap (λ x. cond x (over l i q) l) (le-leb k b w.0))) (λ w. never cc) (paid b k a.step)
found_is {b} {i} {n} (dead k) {l} {l'} a f =
    ⊎_elim (λ w. never cc) (λ w. never cc) (paid b k a.step)

pub dead_is : {b i n : ℕ} (o : Res) {l l' : List ℕ} {X : Type 0} → CutTo b i o l (Dead n) l' → ((k : ℕ) → o ≡ dead k → k ≤ b → n ≡ b - k → l' ≡ l → X) → X
unfolding step_of written
dead_is {b} {i} {n} (dead k) {l} {l'} a f =
    ⊎_elim (λ w. f k refl w.0 (cc) a.labels) (λ w. never cc) (paid b k a.step)
dead_is {b} {i} {n} (found q k) {l} {l'} a f =
    ⊎_elim (λ w. never cc) (λ w. never cc) (paid b k a.step)

pub spent_is : {b i : ℕ} (o : Res) {l l' : List ℕ} → CutTo b i o l Spent l' → (b < size o) × (l' ≡ l)
unfolding step_of written
spent_is {b} {i} (found q k) {l} {l'} a =
    ⊎_elim (λ w. never cc) (λ w. (w.0, a.labels ∙ ap (λ x. cond x (over l i q) l) (lt-leb k b w.0))) (paid b k a.step)
spent_is {b} {i} (dead k) {l} {l'} a =
    ⊎_elim (λ w. never cc) (λ w. (w.0, a.labels)) (paid b k a.step)

-- c trials more under a budget that has them
more : (b c i : ℕ) (o : Res) (l : List ℕ) (r : Step) (l' : List ℕ) → c ≤ b → CutTo (b - c) i o l r l' → CutTo b i (plus c o) l r l'
unfolding plus over
more b c i o l (Found n) l' h a = found_is o a (λ q k e g v m. rw (e, m) (found_says b i n (c + k) q l (omega arith) (omega arith)))
more b c i o l (Dead n) l' h a = dead_is o a (λ k e g v m. rw (e, m) (dead_says b i n (c + k) l (omega arith) (omega arith)))
more b c i o l Spent l' h a = let s = spent_is _ a in rw s.1 (spent_says b i (plus c o) l (omega (arith, s.0, size-plus c o)))

module _ {S : Type 0} (sp : Space S) where
  -- no connection is left
  pub done : (s : S) (b i r : ℕ) (l : List ℕ) → r ≡ 0 → CutTo b i (place sp r s) l (Found b) l
  unfolding place over
  done s b i r l e = subst (λ (n : ℕ). CutTo b i (place sp n s) l (Found b) l) (sym e) (found_says b i b 0 [] l (omega arith) (omega arith))

  -- one is left at least
  pub place_more : (s : S) (m i : ℕ) → i < m → place sp (m - i) s ≡ tries sp (place sp (m - (i + 1))) (sp.width + 1 - 1) 1 s
  unfolding place
  place_more s m i h =
      let e : m - i ≡ suc (m - (i + 1)) = omega arith in
      ap (λ (n : ℕ). place sp n s) e ∙ (let z : sp.width ≡ sp.width + 1 - 1 = omega arith in ap (λ (n : ℕ). tries sp (place sp (m - (i + 1))) n 1 s) z)

  pub tries-none : (f : S → Res) (s : S) (w t : ℕ) → t ≡ w + 1 → tries sp f (w + 1 - t) t s ≡ dead 0
  unfolding tries
  tries-none f s w t h = let e : w + 1 - t ≡ 0 = omega arith in ap (λ (n : ℕ). tries sp f n t s) e

  pub tries_more : (f : S → Res) (s : S) (w t : ℕ) → t ≤ w → tries sp f (w + 1 - t) t s ≡ branch (sp.ok s t) t (f (sp.next s t)) (tries sp f (w + 1 - (t + 1)) (t + 1) s)
  unfolding tries
  tries_more f s w t h =
      let e : w + 1 - t ≡ suc (w + 1 - (t + 1)) = omega arith in
      ap (λ (n : ℕ). tries sp f n t s) e ∙ ap (λ (u : ℕ). branch (sp.ok s t) t (f (sp.next s t)) (tries sp f (w + 1 - (t + 1)) u s)) (sym (add-one t))

-- no track is left
pub none : (b i : ℕ) (l : List ℕ) → CutTo b i (dead 0) l (Dead b) l
none b i l = dead_says b i b 0 l (omega arith) (omega arith)

-- no budget is left
pub out : (i t b : ℕ) (x : Bool) (sub rest : Res) (l : List ℕ) → b ≡ 0 → CutTo b i (branch x t sub rest) l Spent l
out i t b x sub rest l e = spent_says b i (branch x t sub rest) l (omega (arith, size-branch x t sub rest))

-- the track does not fit
pub passed : (i t b : ℕ) (sub rest : Res) (l l' : List ℕ) (r : Step) → (b ≡ 0 → ⊥) → CutTo (b - 1) i rest l r l' → CutTo b i (branch false t sub rest) l r l'
unfolding branch
passed i t b sub rest l l' r h a = more b 1 i rest l r l' (omega arith) a

-- the track fits, and all is placed below it
pub hit : (i t b n : ℕ) (sub rest : Res) (l l' : List ℕ) → (b ≡ 0 → ⊥) → CutTo (b - 1) (i + 1) sub l (Found n) l' → CutTo b i (branch true t sub rest) l (Found n) (set l' i t)
unfolding branch graft over
hit i t b n sub rest l l' h a = found_is sub a (λ q k e g v m. rw (e, m) (found_says b i n (1 + k) (t ∷ q) l (omega arith) (omega arith)))

-- the track fits, and nothing can be placed below it: the later tracks, with what is left of the budget
pub missed : (i t b n : ℕ) (sub rest : Res) (l l₁ l' : List ℕ) (r : Step) → (b ≡ 0 → ⊥) → CutTo (b - 1) (i + 1) sub l (Dead n) l₁ → CutTo n i rest l₁ r l' → CutTo b i (branch true t sub rest) l r l'
unfolding branch graft
missed i t b n sub rest l l₁ l' r h a c =
    dead_is sub a (λ k e g v m. let u : n ≡ b - (1 + k) = omega arith in rw e (more b (1 + k) i rest l r l' (omega arith) (rw (m, u) at c)))

-- the track fits, and the budget is used up below it
pub starved : (i t b : ℕ) (sub rest : Res) (l l' : List ℕ) → (b ≡ 0 → ⊥) → CutTo (b - 1) (i + 1) sub l Spent l' → CutTo b i (branch true t sub rest) l Spent l'
starved i t b sub rest l l' h a = let s = spent_is _ a in rw s.1 (spent_says b i (branch true t sub rest) l (omega (arith, s.0, size_below t sub rest)))

-- the same at the n tracks from t on
module _ {S : Type 0} (sp : Space S) (f : S → Res) (s : S) (w t : ℕ) where
  at-branch : (x : Bool) → t ≤ w → sp.ok s t ≡ x → tries sp f (w + 1 - t) t s ≡ branch x t (f (sp.next s t)) (tries sp f (w + 1 - (t + 1)) (t + 1) s)
  at-branch x h e = tries_more sp f s w t h ∙ ap (λ y. branch y t (f (sp.next s t)) (tries sp f (w + 1 - (t + 1)) (t + 1) s)) e

  pub tries_end : (b i : ℕ) (l : List ℕ) → t ≡ w + 1 → CutTo b i (tries sp f (w + 1 - t) t s) l (Dead b) l
  tries_end b i l h = rw (tries-none sp f s w t h) (none b i l)

  pub tries_out : (b i : ℕ) (l : List ℕ) → t ≤ w → b ≡ 0 → CutTo b i (tries sp f (w + 1 - t) t s) l Spent l
  tries_out b i l h e = rw (tries_more sp f s w t h) (out i t b (sp.ok s t) _ _ l e)

  pub tries-passed : (b i : ℕ) (l l' : List ℕ) (r : Step) → t ≤ w → sp.ok s t ≡ false → (b ≡ 0 → ⊥) → CutTo (b - 1) i (tries sp f (w + 1 - (t + 1)) (t + 1) s) l r l' → CutTo b i (tries sp f (w + 1 - t) t s) l r l'
  tries-passed b i l l' r h e g a = rw (at-branch false h e) (passed i t b _ _ l l' r g a)

  pub tries_hit : (b i n : ℕ) (l l' : List ℕ) → t ≤ w → sp.ok s t ≡ true → (b ≡ 0 → ⊥) → CutTo (b - 1) (i + 1) (f (sp.next s t)) l (Found n) l' → CutTo b i (tries sp f (w + 1 - t) t s) l (Found n) (set l' i t)
  tries_hit b i n l l' h e g a = rw (at-branch true h e) (hit i t b n _ _ l l' g a)

  pub tries_missed : (b i n : ℕ) (l l₁ l' : List ℕ) (r : Step) → t ≤ w → sp.ok s t ≡ true → (b ≡ 0 → ⊥) → CutTo (b - 1) (i + 1) (f (sp.next s t)) l (Dead n) l₁ → CutTo n i (tries sp f (w + 1 - (t + 1)) (t + 1) s) l₁ r l' → CutTo b i (tries sp f (w + 1 - t) t s) l r l'
  tries_missed b i n l l₁ l' r h e g a c = rw (at-branch true h e) (missed i t b n _ _ l l₁ l' r g a c)

  pub tries_starved : (b i : ℕ) (l l' : List ℕ) → t ≤ w → sp.ok s t ≡ true → (b ≡ 0 → ⊥) → CutTo (b - 1) (i + 1) (f (sp.next s t)) l Spent l' → CutTo b i (tries sp f (w + 1 - t) t s) l Spent l'
  tries_starved b i l l' h e g a = rw (at-branch true h e) (starved i t b _ _ l l' g a)

-- a dead end writes nothing and gives back no more than it was given
pub dead_keeps : (b i n : ℕ) (o : Res) (l l' : List ℕ) → CutTo b i o l (Dead n) l' → (l' ≡ l) × (n ≤ b)
dead_keeps b i n o l l' a = dead_is o a (λ k e g v m. (m, omega arith))
