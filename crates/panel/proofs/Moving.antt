-- Why `replace` is right: the loads go down where the connection is left and up where it comes, unless another piece is there, and its columns are others.
-- Assumes nothing.
use mathlib.Core.Path.{◌≡◌, refl, sym, ap, subst, ◌∙◌}
use mathlib.Core.Bool.{Bool, ◌&&◌, not, cond}
use mathlib.Core.List.{List}
use Prim.Native.Nat.{ℕ, ◌+◌, ◌-◌, ◌≤◌, ◌<◌, max}
use native.Mathlib.Omega.{arith}
use lib.ListN.{length, get_or, set, length-set}
use lib.Seq.{get_or-set_same, get_or-set_other}
use Rattle.facts.specs.Odd.{bit_of}
use Rattle.channel.specs.Limits.{most_connections}
use Rattle.channel.specs.Channel.{Connection, connection_at}
use Rattle.channel.specs.Relaxed.{without}
use Rattle.loads.specs.Loads.{crosses, covered, brings, load}
use Rattle.loads.specs.Edits.{move, moved, edited}
use Rattle.loads.proofs.Covers.{covered-marked}
use Rattle.loads.proofs.Edits.{load_apart, load_set}
use Rattle.jobfile.specs.Rows.{tab}
use Rattle.jobfile.proofs.Decode.{tab-length}
use Rattle.state.specs.declared.Way.TheVariants.{Up, Down}
use Rattle.state.specs.State.{record_at, loads_at, state_bytes, m_in, connection_in, list_in, load_in, up, down}
use Rattle.state.specs.Walks.{in_span, other_over, Turned}
use Rattle.state.proofs.Walks.{turned_same}
use Rattle.state.proofs.Covers.{list_at}
use Rattle.state.proofs.Lists.{tab-set}
use Rattle.state.proofs.Outside.{over-same}
use Rattle.panel.specs.Does.{carried, Relisted}
use Rattle.panel.proofs.Carried.{carried_move, span_crosses, cut_crosses, over-list}

-- the columns of a span that are not of another
abbrev pub beside : ℕ → ℕ → ℕ → ℕ → ℕ → Bool
beside a e b f x = in_span a e x && not (in_span b f x)

module _ (s s₁ s₂ : List ℕ) (m i l r : ℕ) (long : length s ≡ state_bytes) (size : m ≡ m_in s) (most : m ≤ most_connections) (low : i < m)
    (left : Turned (λ x. beside (connection_in s i).left (max (connection_in s i).left ((connection_in s i).right + 1)) l (r + 1) x && not (other_over s m i (connection_in s i).mark x)) Down s s₁)
    (came : Turned (λ x. beside l (r + 1) (connection_in s i).left (max (connection_in s i).left ((connection_in s i).right + 1)) x && not (other_over s₁ m i (connection_in s i).mark x)) Up s₁ s₂) where
  abbrev c : Connection
  c = connection_in s i

  abbrev to : Connection
  to = moved c l r

  abbrev rest : List Connection
  rest = without i (list_in s)

  abbrev s₃ : List ℕ
  s₃ = set s₂ (record_at i) l

  abbrev s₄ : List ℕ
  s₄ = set s₃ (record_at i + 1) r

  abbrev written : List ℕ
  written = set s₄ 2 m

  here : length s₂ ≡ state_bytes
  here = came.long ∙ left.long ∙ long

  other : (k : ℕ) → (k ≡ 2 → ⊥) → (k ≡ record_at i → ⊥) → (k ≡ record_at i + 1 → ⊥) → get_or written k 0 ≡ get_or s₂ k 0
  other k a b d = get_or-set_other s₄ 2 k m 0 a ∙ get_or-set_other s₃ (record_at i + 1) k r 0 d ∙ get_or-set_other s₂ (record_at i) k l 0 b

  same : (k : ℕ) → (k ≡ 2 → ⊥) → (k ≡ record_at i → ⊥) → (k ≡ record_at i + 1 → ⊥) → k ≤ loads_at → get_or written k 0 ≡ get_or s k 0
  same k a b d h = other k a b d ∙ came.others k h ∙ left.others k h

  number : get_or written 2 0 ≡ m
  number = get_or-set_same s₄ 2 m 0 (omega (arith, here, length-set s₂ (record_at i) l, length-set s₃ (record_at i + 1) r))

  record_left : get_or written (record_at i) 0 ≡ l
  record_left =
      get_or-set_other s₄ 2 (record_at i) m 0 (λ z. omega arith)
      ∙ get_or-set_other s₃ (record_at i + 1) (record_at i) r 0 (λ z. omega arith)
      ∙ get_or-set_same s₂ (record_at i) l 0 (omega (arith, here))

  record_right : get_or written (record_at i + 1) 0 ≡ r
  record_right = get_or-set_other s₄ 2 (record_at i + 1) m 0 (λ z. omega arith) ∙ get_or-set_same s₃ (record_at i + 1) r 0 (omega (arith, here, length-set s₂ (record_at i) l))

  at_i : connection_in written i ≡ to
  at_i = (λ x. record { left = record_left x; right = record_right x; mark = same (record_at i + 2) (λ z. omega arith) (λ z. omega arith) (λ z. omega arith) (omega arith) x })

  others : (j : ℕ) → j < m → (j ≡ i → ⊥) → connection_in written j ≡ connection_in s j
  others j h n =
      (λ x. record {
        left = same (record_at j) (λ z. omega arith) (λ z. n (omega arith)) (λ z. omega arith) (omega arith) x;
        right = same (record_at j + 1) (λ z. omega arith) (λ z. omega arith) (λ z. n (omega arith)) (omega arith) x;
        mark = same (record_at j + 2) (λ z. omega arith) (λ z. omega arith) (λ z. omega arith) (omega arith) x;
      })

  there : connection_at (list_in s) i ≡ c
  there = list_at s (m_in s) i (omega arith)

  inside : i < length (list_in s)
  inside = omega (arith, tab-length (connection_in s) (m_in s) 0)

  list : list_in written ≡ set (list_in s) i to
  list =
      let n : m_in written ≡ m = omega (arith, number, most) in
      let z : 0 + i ≡ i = omega arith in
      ap (λ (q : ℕ). tab (connection_in written) q 0) n
      ∙ tab-set (connection_in written) (connection_in s) m i 0 low (λ j a b e. others j (omega arith) (λ y. e (omega arith)))
      ∙ (λ x. set (tab (connection_in s) (size x) 0) i ((ap (connection_in written) z ∙ at_i) x))

  -- another piece over x, and whether the connection crossed and crosses it
  module _ (x : ℕ) where
    abbrev over : Bool
    over = covered rest c x

    gone : (beside c.left (max c.left (c.right + 1)) l (r + 1) x && not (other_over s m i c.mark x)) ≡ ((crosses c x && not (crosses to x)) && not over)
    gone = (λ j. (cut_crosses c x j && not (span_crosses to x j)) && not (over-list s m size c x i j))

    new : (beside l (r + 1) c.left (max c.left (c.right + 1)) x && not (other_over s₁ m i c.mark x)) ≡ ((crosses to x && not (crosses c x)) && not over)
    new = (λ j. (span_crosses to x j && not (cut_crosses c x j)) && not ((over-same s s₁ m most left.others i c.mark x ∙ over-list s m size c x i) j))

    was : load (list_in s) x ≡ load rest x + bit_of (crosses c x && not over)
    unfolding brings
    was = load_apart i (list_in s) x inside ∙ ap (λ (q : Connection). load rest x + bit_of (brings rest q x)) there

    is : load (set (list_in s) i to) x ≡ load rest x + bit_of (crosses to x && not over)
    unfolding brings
    is = load_set i (list_in s) to x inside ∙ ap (λ (b : Bool). load rest x + bit_of (crosses to x && not b)) (covered-marked rest to c x refl)

    loads : 1 ≤ x → load_in written x ≡ carried (load (list_in s) x) (load (set (list_in s) i to) x) (load_in s x)
    loads h =
        let one : load_in s₁ x ≡ cond ((crosses c x && not (crosses to x)) && not over) (down (load_in s x)) (load_in s x) = left.loads x h ∙ ap (λ (b : Bool). cond b (down (load_in s x)) (load_in s x)) gone in
        other (loads_at + x) (λ z. omega arith) (λ z. omega arith) (λ z. omega arith)
        ∙ came.loads x h
        ∙ (λ j. cond (new j) (up (one j)) (one j))
        ∙ carried_move (load rest x) (load_in s x) over (crosses c x) (crosses to x)
        ∙ sym (λ j. carried (was j) (is j) (load_in s x))

  count_is : length (set (list_in s) i to) ≡ m
  count_is = length-set (list_in s) i to ∙ tab-length (connection_in s) (m_in s) 0 ∙ sym size

  replaced : Relisted s (set (list_in s) i to) written
  replaced = record {
    long = length-set s₄ 2 m ∙ length-set s₃ (record_at i + 1) r ∙ length-set s₂ (record_at i) l ∙ came.long ∙ left.long;
    columns = same 0 (λ z. omega arith) (λ z. omega arith) (λ z. omega arith) (omega arith);
    tracks = same 1 (λ z. omega arith) (λ z. omega arith) (λ z. omega arith) (omega arith);
    count = number ∙ sym count_is;
    list = list;
    loads = loads;
    room = λ k a b. same k (λ z. omega arith) (λ z. omega (arith, count_is)) (λ z. omega (arith, count_is)) b;
  }

-- the same, by the columns as the code reads them
pub shifted : (s s₁ s₂ : List ℕ) (m i l r from to : ℕ) → length s ≡ state_bytes → m ≡ m_in s → m ≤ most_connections → i < m → from ≡ (connection_in s i).left → to ≡ max (connection_in s i).left ((connection_in s i).right + 1) →
    Turned (λ x. beside from to l (r + 1) x && not (other_over s m i (connection_in s i).mark x)) Down s s₁ →
    Turned (λ x. beside l (r + 1) from to x && not (other_over s₁ m i (connection_in s i).mark x)) Up s₁ s₂ → Relisted s (edited (move (i + 1) l r) (list_in s)) (set (set (set s₂ (record_at i) l) (record_at i + 1) r) 2 m)
unfolding edited
shifted s s₁ s₂ m i l r from to long size most low ef et left came =
    let z : i ≡ i + 1 - 1 = omega arith in
    let written : List ℕ = set (set (set s₂ (record_at i) l) (record_at i + 1) r) 2 m in
    let a = turned_same left (λ x one. (λ j. beside (ef j) (et j) l (r + 1) x && not (other_over s m i (connection_in s i).mark x))) in
    let b = turned_same came (λ x one. (λ j. beside l (r + 1) (ef j) (et j) x && not (other_over s₁ m i (connection_in s i).mark x))) in
    subst (λ (n : ℕ). Relisted s (set (list_in s) n (moved (connection_at (list_in s) n) l r)) written) z
    (subst (λ (q : Connection). Relisted s (set (list_in s) i (moved q l r)) written) (sym (list_at s (m_in s) i (omega arith))) (replaced s s₁ s₂ m i l r long size most low a b))
