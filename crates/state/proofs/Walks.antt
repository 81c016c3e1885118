-- The laws of an edit's walks. Assumes nothing.
use mathlib.Core.Path.{◌≡◌, refl, sym, ap, subst, ◌∙◌}
use mathlib.Core.Bool.{Bool, true, false, ◌&&◌, ◌||◌, not, cond}
use mathlib.Core.Logic.{◌⊎◌, inl, inr, ⊎_elim}
use mathlib.Core.List.{List}
use Prim.Native.Nat.{ℕ, suc, ◌+◌, ◌-◌, ◌≤◌, ◌<◌, min, max}
use native.Mathlib.Omega.{arith}
use lib.Dec.{leb}
use lib.ListN.{length, get_or, set, replicate, length-set}
use lib.Seq.{get_or-set_same, get_or-set_other}
use borrow.Author.Tests.{leb-true, le-leb, ltb-true, lt-ltb, le-ltb, not-true}
use Rattle.facts.proofs.Bools.{both, iff, below, not-both, either, or-first, or_second, and_left, and_right, and_both, false-by}
use Rattle.facts.proofs.Lists.{zeros}
use Rattle.channel.specs.Limits.{most_columns}
use Rattle.state.specs.State.{loads_at, connection_in, load_in, up}
use Rattle.state.specs.declared.Way.{Way}
use Rattle.state.specs.Walks.{in_span, one_net, SetDown, furthest, turn, Turned}

-- the larger of two is one of them
pub max-one : (a b : ℕ) → (max a b ≡ a) ⊎ (max a b ≡ b)
max-one a b = ⊎_elim (λ (h : a < b). inr (omega arith)) (λ (h : b ≤ a). inl (omega arith)) (below a b)

-- two numbers are one, or not
same : (a b : ℕ) → (a ≡ b) ⊎ (a ≡ b → ⊥)
same a b = ⊎_elim (λ (h : a < b). inr (λ z. omega arith)) (λ (h : b ≤ a). ⊎_elim (λ (k : b < a). inr (λ z. omega arith)) (λ (k : a ≤ b). inl (omega arith)) (below b a)) (below a b)

-- the columns of a span
module _ (a e x : ℕ) where
  pub span_says : in_span a e x ≡ true → (a ≤ x) × (x < e)
  unfolding in_span
  span_says h = let b = both (leb a x) _ h in (leb-true a x b.0, ltb-true x e b.1)

  pub span_is : a ≤ x → x < e → in_span a e x ≡ true
  unfolding in_span
  span_is h l = and_both (le-leb a x h) (lt-ltb x e l)

  pub span_behind : e ≤ x → in_span a e x ≡ false
  span_behind h = false-by (λ w. omega (arith, (span_says w).1))

  pub span_before : x < a → in_span a e x ≡ false
  span_before h = false-by (λ w. omega (arith, (span_says w).0))

pub span_empty : (a x : ℕ) → in_span a a x ≡ false
span_empty a x = false-by (λ w. let s = span_says a a x w in omega (arith, s.0, s.1))

-- the span up to e, and with the column e
module _ (a e y : ℕ) (other : y ≡ e → ⊥) where
  pub span_next : in_span a (e + 1) y ≡ in_span a e y
  span_next = iff (λ w. let s = span_says a (e + 1) y w in span_is a e y s.0 (⊎_elim (λ (h : y < e). h) (λ (h : e ≤ y). absurd (other (omega (arith, s.1)))) (below y e))) (λ w. let s = span_says a e y w in span_is a (e + 1) y s.0 (omega (arith, s.1)))

-- a span from column 1 on
module _ (a e x : ℕ) (low : 1 ≤ x) where
  pub span_first : in_span (max a 1) e x ≡ in_span a e x
  span_first =
      iff
      (λ w. let s = span_says (max a 1) e x w in span_is a e x (omega (arith, s.0)) s.1)
      (λ w. let s = span_says a e x w in span_is (max a 1) e x (omega (arith, s.0, low)) s.1)

  pub span_none : e ≤ max a 1 → in_span a e x ≡ false
  span_none h = sym span_first ∙ false-by (λ w. let s = span_says (max a 1) e x w in omega (arith, s.0, s.1))

-- the columns of a span that are not of another: those before it and those behind it
module _ (a e b f x : ℕ) (order : b ≤ f) where
  pub outside_apart : in_span a (min e b) x ≡ true → in_span (max a f) e x ≡ false
  outside_apart w = false-by (λ v. let s = span_says a (min e b) x w in let t = span_says (max a f) e x v in omega (arith, s.1, t.0))

  pub outside_parts : (in_span a (min e b) x || in_span (max a f) e x) ≡ (in_span a e x && not (in_span b f x))
  outside_parts = iff to from
    where
      to : (in_span a (min e b) x || in_span (max a f) e x) ≡ true → (in_span a e x && not (in_span b f x)) ≡ true
      to w =
          ⊎_elim
          (λ (v : in_span a (min e b) x ≡ true). let s = span_says a (min e b) x v in and_both (span_is a e x s.0 (omega (arith, s.1))) (ap not (span_before b f x (omega (arith, s.1)))))
          (λ (v : in_span (max a f) e x ≡ true). let s = span_says (max a f) e x v in and_both (span_is a e x (omega (arith, s.0)) s.1) (ap not (span_behind b f x (omega (arith, s.0)))))
          (either (in_span a (min e b) x) _ w)

      from : (in_span a e x && not (in_span b f x)) ≡ true → (in_span a (min e b) x || in_span (max a f) e x) ≡ true
      from w =
          let s = span_says a e x (and_left (in_span a e x) _ w) in
          let n = not-true (in_span b f x) (and_right (in_span a e x) _ w) in
          ⊎_elim
          (λ (h : x < b). or-first (in_span (max a f) e x) (span_is a (min e b) x s.0 (omega (arith, s.1))))
          (λ (h : b ≤ x). ⊎_elim
          (λ (k : x < f). not-both (span_is b f x h k) n)
          (λ (k : f ≤ x). or_second (in_span a (min e b) x) (span_is (max a f) e x (omega (arith, s.0)) s.1))
          (below x f))
          (below x b)

-- a load one more
module _ (b : ℕ) where
  pub up_more : b < 255 → up b ≡ b + 1
  unfolding up
  up_more h = ap (λ (c : Bool). cond c (b + 1) b) (lt-ltb b 255 h)

  pub up_most : 255 ≤ b → up b ≡ b
  unfolding up
  up_most h = ap (λ (c : Bool). cond c (b + 1) b) (le-ltb b 255 h)

  pub up_min : b ≤ 255 → min (b + 1) 255 ≡ up b
  up_min h = ⊎_elim (λ (l : b < 255). omega (arith, up_more l)) (λ (l : 255 ≤ b). omega (arith, up_most l)) (below b 255)

-- Reaching. Nothing reaches at first
pub reaches_none : (s : List ℕ) (but l k : ℕ) → SetDown s 0 but l k (replicate (most_columns + 1) 0)
reaches_none s but l k = record { long = refl; whole = λ i h n e. absurd (omega arith); sound = λ y h. absurd (omega (arith, zeros (most_columns + 1) y)) }

module _ (s : List ℕ) (i but l k : ℕ) (reach : List ℕ) (g : SetDown s i but l k reach) where
  -- one more that is left out, or is no piece
  pub reaches_skip : ((i ≡ but → ⊥) → one_net (connection_in s i).mark k ≡ false) → SetDown s (i + 1) but l k reach
  reaches_skip n = record {
    long = g.long;
    whole = λ h m o e. ⊎_elim (λ (b : h < i). g.whole h b o e) (λ (b : i ≤ h). let z : i ≡ h = omega arith in not-both e (subst (λ (x : ℕ). one_net (connection_in s x).mark k ≡ false) z (n (λ q. o (omega arith))))) (below h i);
    sound = λ y h. let p = g.sound y h in (p.0, omega (arith, p.1), p.2, p.3, p.4, p.5);
  }

  -- one more that is one: set down at y
  pub reaches_more : (y v : ℕ) → y ≡ max (connection_in s i).left l → v ≡ max (get_or reach y 0) (connection_in s i).right → y ≤ most_columns → (i ≡ but → ⊥) → one_net (connection_in s i).mark k ≡ true → SetDown s (i + 1) but l k (set reach y v)
  reaches_more y v at is h other e = record { long = length-set reach y v ∙ g.long; whole = whole; sound = sound }
    where
      new : List ℕ
      new = set reach y v

      here : get_or new y 0 ≡ v
      here = get_or-set_same reach y v 0 (omega (arith, g.long))

      -- each column is y, or as it was
      which : (x : ℕ) → (y ≡ x) ⊎ (get_or new x 0 ≡ get_or reach x 0)
      which x = ⊎_elim (λ (b : y ≡ x). inl b) (λ (b : y ≡ x → ⊥). inr (get_or-set_other reach y x v 0 (λ z. b (sym z)))) (same y x)

      grows : (x : ℕ) → get_or reach x 0 ≤ get_or new x 0
      grows x = ⊎_elim (λ (z : y ≡ x). subst (λ (w : ℕ). get_or reach w 0 ≤ get_or new w 0) z (omega (arith, here))) (λ (z : get_or new x 0 ≡ get_or reach x 0). omega arith) (which x)

      whole : (h : ℕ) → h < i + 1 → (h ≡ but → ⊥) → one_net (connection_in s h).mark k ≡ true → (connection_in s h).right ≤ get_or new (max (connection_in s h).left l) 0
      whole h m o q =
          ⊎_elim
          (λ (b : h < i). omega (arith, g.whole h b o q, grows (max (connection_in s h).left l)))
          (λ (b : i ≤ h).
          let z : i ≡ h = omega arith in
          subst (λ (x : ℕ). (connection_in s x).right ≤ get_or new (max (connection_in s x).left l) 0) z
          (subst (λ (w : ℕ). (connection_in s i).right ≤ get_or new w 0) at (omega (arith, here))))
          (below h i)

      sound : (x : ℕ) → 0 < get_or new x 0 → (h : ℕ) × (h < i + 1) × (one_net (connection_in s h).mark k ≡ true) × ((connection_in s h).left ≤ x) × ((connection_in s h).right ≡ get_or new x 0) × (h ≡ but → ⊥)
      sound x p =
          let old : get_or new x 0 ≡ get_or reach x 0 → (h : ℕ) × (h < i + 1) × (one_net (connection_in s h).mark k ≡ true) × ((connection_in s h).left ≤ x) × ((connection_in s h).right ≡ get_or new x 0) × (h ≡ but → ⊥) = λ q. let d = g.sound x (omega arith) in (d.0, omega (arith, d.1), d.2, d.3, d.4 ∙ sym q, d.5) in
          ⊎_elim
          (λ (z : y ≡ x).
          ⊎_elim
          (λ (w : v ≡ get_or reach y 0). old (subst (λ (u : ℕ). get_or new u 0 ≡ get_or reach u 0) z (here ∙ w)))
          (λ (w : v ≡ (connection_in s i).right). (i, omega arith, e, omega arith, sym w ∙ sym here ∙ ap (λ (u : ℕ). get_or new u 0) z, other))
          (⊎_elim (λ (w : max (get_or reach y 0) (connection_in s i).right ≡ get_or reach y 0). inl (is ∙ w)) (λ (w : max (get_or reach y 0) (connection_in s i).right ≡ (connection_in s i).right). inr (is ∙ w)) (max-one (get_or reach y 0) (connection_in s i).right)))
          old
          (which x)

pub furthest_more : (reach : List ℕ) (l x : ℕ) → l ≤ x → furthest reach l (x + 1 - l) ≡ max (furthest reach l (x - l)) (get_or reach x 0)
unfolding furthest
furthest_more reach l x h =
    let a : x + 1 - l ≡ suc (x - l) = omega arith in
    let b : l + (x - l) ≡ x = omega arith in
    ap (furthest reach l) a ∙ ap (λ (w : ℕ). max (furthest reach l (x - l)) (get_or reach w 0)) b

-- Turning. No column; one more; other words for the same columns; columns after others
pub turned_none : (on : ℕ → Bool) (way : Way) (s : List ℕ) → ((x : ℕ) → 1 ≤ x → on x ≡ false) → Turned on way s s
turned_none on way s never = record { long = refl; loads = λ x h. sym (ap (λ (b : Bool). cond b (turn way (load_in s x)) (load_in s x)) (never x h)); others = λ k h. refl }

pub turned_same : {on off : ℕ → Bool} {way : Way} {s s' : List ℕ} → Turned on way s s' → ((x : ℕ) → 1 ≤ x → on x ≡ off x) → Turned off way s s'
turned_same {way = way} {s = s} g e = record { long = g.long; loads = λ x h. g.loads x h ∙ ap (λ (b : Bool). cond b (turn way (load_in s x)) (load_in s x)) (e x h); others = g.others }

module _ {on : ℕ → Bool} {way : Way} {s s' : List ℕ} (g : Turned on way s s') (off : ℕ → Bool) (x : ℕ) (low : 1 ≤ x) (new : on x ≡ false) (old : (y : ℕ) → (y ≡ x → ⊥) → off y ≡ on y) where
  -- one column more is looked at, and stays
  pub turned_stays : off x ≡ false → Turned off way s s'
  turned_stays e = turned_same g (λ y h. ⊎_elim (λ (b : y < x). sym (old y (λ z. omega arith))) (λ (b : x ≤ y). ⊎_elim (λ (c : x < y). sym (old y (λ z. omega arith))) (λ (c : y ≤ x). let z : x ≡ y = omega arith in subst (λ (w : ℕ). on w ≡ off w) z (new ∙ sym e)) (below x y)) (below y x))

  -- and is turned
  pub turned_more : off x ≡ true → loads_at + x < length s → (v : ℕ) → v ≡ turn way (load_in s' x) → Turned off way s (set s' (loads_at + x) v)
  turned_more e room v is = record {
    long = length-set s' (loads_at + x) v ∙ g.long;
    loads = λ y h.
        ⊎_elim
        (λ (b : y < x). same y h (λ z. omega arith))
        (λ (b : x ≤ y). ⊎_elim
        (λ (c : x < y). same y h (λ z. omega arith))
        (λ (c : y ≤ x). let z : x ≡ y = omega arith in subst (λ (w : ℕ). get_or (set s' (loads_at + x) v) (loads_at + w) 0 ≡ cond (off w) (turn way (load_in s w)) (load_in s w)) z here)
        (below x y))
        (below y x);
    others = λ k h. get_or-set_other s' (loads_at + x) k v 0 (λ z. omega arith) ∙ g.others k h;
  }
    where
      same : (y : ℕ) → 1 ≤ y → (y ≡ x → ⊥) → get_or (set s' (loads_at + x) v) (loads_at + y) 0 ≡ cond (off y) (turn way (load_in s y)) (load_in s y)
      same y h n = get_or-set_other s' (loads_at + x) (loads_at + y) v 0 (λ z. n (omega arith)) ∙ g.loads y h ∙ ap (λ (b : Bool). cond b (turn way (load_in s y)) (load_in s y)) (sym (old y n))

      here : get_or (set s' (loads_at + x) v) (loads_at + x) 0 ≡ cond (off x) (turn way (load_in s x)) (load_in s x)
      here =
          get_or-set_same s' (loads_at + x) v 0 (omega (arith, g.long))
          ∙ is
          ∙ ap (turn way) (g.loads x low ∙ ap (λ (b : Bool). cond b (turn way (load_in s x)) (load_in s x)) new)
          ∙ sym (ap (λ (b : Bool). cond b (turn way (load_in s x)) (load_in s x)) e)

pub turned_both : {on off : ℕ → Bool} {way : Way} {s s₁ s₂ : List ℕ} → Turned on way s s₁ → Turned off way s₁ s₂ → ((x : ℕ) → on x ≡ true → off x ≡ false) → Turned (λ x. on x || off x) way s s₂
turned_both {on} {off} {way} {s} {s₁} {s₂} g h apart = record { long = h.long ∙ g.long; loads = λ x l. two x (on x) refl (g.loads x l) (h.loads x l); others = λ k l. h.others k l ∙ g.others k l }
  where
    two : (x : ℕ) (b : Bool) → on x ≡ b → load_in s₁ x ≡ cond (on x) (turn way (load_in s x)) (load_in s x) → load_in s₂ x ≡ cond (off x) (turn way (load_in s₁ x)) (load_in s₁ x) → load_in s₂ x ≡ cond (on x || off x) (turn way (load_in s x)) (load_in s x)
    two x true e p q =
        q ∙ ap (λ (b : Bool). cond b (turn way (load_in s₁ x)) (load_in s₁ x)) (apart x e) ∙ p ∙ (λ i. cond (e i) (turn way (load_in s x)) (load_in s x)) ∙ sym (λ i. cond (e i || off x) (turn way (load_in s x)) (load_in s x))
    two x false e p q =
        let z : load_in s₁ x ≡ load_in s x = p ∙ (λ i. cond (e i) (turn way (load_in s x)) (load_in s x)) in
        q ∙ ap (λ (l : ℕ). cond (off x) (turn way l) l) z ∙ sym (λ i. cond (e i || off x) (turn way (load_in s x)) (load_in s x))
