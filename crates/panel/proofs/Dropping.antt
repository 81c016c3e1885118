-- Why `remove` is right: the loads go down where no other piece is, and the connections behind move down by one. Assumes nothing.
use mathlib.Core.Path.{◌≡◌, sym, ap, subst, ◌∙◌}
use mathlib.Core.Bool.{Bool, ◌&&◌, not, cond}
use mathlib.Core.Logic.{◌⊎◌, inl, inr}
use mathlib.Core.List.{List}
use Prim.Native.Nat.{ℕ, suc, ◌+◌, ◌-◌, ◌*◌, ◌≤◌, ◌<◌}
use native.Mathlib.Omega.{arith}
use lib.ListN.{length, get_or, set, length-set}
use lib.Seq.{get_or-set_same, get_or-set_other}
use Rattle.channel.specs.Limits.{most_connections}
use Rattle.channel.specs.Channel.{Connection, connection_at}
use Rattle.channel.specs.Relaxed.{without}
use Rattle.channel.proofs.Relaxations.{without-length}
use Rattle.loads.specs.Loads.{brings, load}
use Rattle.loads.specs.Edits.{drop, edited}
use Rattle.loads.proofs.Edits.{load_apart}
use Rattle.jobfile.specs.Rows.{tab, connection_size}
use Rattle.jobfile.proofs.Decode.{tab-length}
use Rattle.state.specs.declared.Way.TheVariants.{Down}
use Rattle.state.specs.State.{record_at, loads_at, state_bytes, m_in, connection_in, list_in, load_in, down}
use Rattle.state.specs.Walks.{in_span, other_over, Turned, Closed}
use Rattle.state.proofs.Walks.{turned_same}
use Rattle.state.proofs.Covers.{list_at}
use Rattle.state.proofs.Lists.{tab-without}
use Rattle.panel.specs.Does.{carried, Relisted}
use Rattle.panel.proofs.Carried.{carried_drop, span_crosses, over-list}

module _ (s s₁ s₂ : List ℕ) (m i : ℕ) (long : length s ≡ state_bytes) (size : m ≡ m_in s) (most : m ≤ most_connections) (low : i < m) (turned : Turned (λ x. in_span (connection_in s i).left ((connection_in s i).right + 1) x && not (other_over s m i (connection_in s i).mark x)) Down s s₁) (closed : Closed (record_at i) (connection_size * m) s₁ s₂) where
  abbrev shorter : List ℕ
  shorter = set s₂ 2 (m - 1)

  abbrev c : Connection
  c = connection_in s i

  abbrev rest : List Connection
  rest = without i (list_in s)

  number : get_or shorter 2 0 ≡ m - 1
  number = get_or-set_same s₂ 2 (m - 1) 0 (omega (arith, closed.long, turned.long, long))

  behind : (k : ℕ) → (k ≡ 2 → ⊥) → (k < record_at i) ⊎ (connection_size * m ≤ k) → get_or shorter k 0 ≡ get_or s₁ k 0
  behind k n o = get_or-set_other s₂ 2 k (m - 1) 0 n ∙ closed.outside k o

  same : (k : ℕ) → (k ≡ 2 → ⊥) → (k < record_at i) ⊎ (connection_size * m ≤ k) → k ≤ loads_at → get_or shorter k 0 ≡ get_or s k 0
  same k n o h = behind k n o ∙ turned.others k h

  shifted : (k : ℕ) → record_at i ≤ k → k < connection_size * m → get_or shorter k 0 ≡ get_or s (k + connection_size) 0
  shifted k a b = get_or-set_other s₂ 2 k (m - 1) 0 (λ z. omega arith) ∙ closed.inside k a b ∙ turned.others (k + connection_size) (omega arith)

  earlier : (j : ℕ) → j < i → connection_in shorter j ≡ connection_in s j
  earlier j h = (λ x. record { left = same (record_at j) (λ z. omega arith) (inl (omega arith)) (omega arith) x; right = same (record_at j + 1) (λ z. omega arith) (inl (omega arith)) (omega arith) x; mark = same (record_at j + 2) (λ z. omega arith) (inl (omega arith)) (omega arith) x })

  later : (j : ℕ) → i ≤ j → suc j < m → connection_in shorter j ≡ connection_in s (suc j)
  later j h l =
      let a : record_at j + connection_size ≡ record_at (suc j) = omega arith in
      let b : record_at j + 1 + connection_size ≡ record_at (suc j) + 1 = omega arith in
      let d : record_at j + 2 + connection_size ≡ record_at (suc j) + 2 = omega arith in
      (λ x. record {
        left = (shifted (record_at j) (omega arith) (omega arith) ∙ ap (λ (n : ℕ). get_or s n 0) a) x;
        right = (shifted (record_at j + 1) (omega arith) (omega arith) ∙ ap (λ (n : ℕ). get_or s n 0) b) x;
        mark = (shifted (record_at j + 2) (omega arith) (omega arith) ∙ ap (λ (n : ℕ). get_or s n 0) d) x;
      })

  list : list_in shorter ≡ rest
  list =
      let n : m_in shorter ≡ m - 1 = omega (arith, number) in
      let z : suc (m - 1) ≡ m_in s = omega arith in
      ap (λ (q : ℕ). tab (connection_in shorter) q 0) n
      ∙ tab-without (connection_in shorter) (connection_in s) (m - 1) i 0 (omega arith)
      (λ j h. let y : j ≡ 0 + j = omega arith in subst (λ (q : ℕ). connection_in shorter q ≡ connection_in s q) y (earlier j h))
      (λ j h l. let y : j ≡ 0 + j = omega arith in subst (λ (q : ℕ). connection_in shorter q ≡ connection_in s (suc q)) y (later j h (omega arith)))
      ∙ ap (λ (q : ℕ). without i (tab (connection_in s) q 0)) z

  inside : i < length (list_in s)
  inside = omega (arith, tab-length (connection_in s) (m_in s) 0)

  count_is : length rest ≡ m - 1
  count_is = omega (arith, without-length i (list_in s) inside, tab-length (connection_in s) (m_in s) 0)

  there : connection_at (list_in s) i ≡ c
  there = list_at s (m_in s) i (omega arith)

  gone : (x : ℕ) → (in_span c.left (c.right + 1) x && not (other_over s m i c.mark x)) ≡ brings rest (connection_at (list_in s) i) x
  unfolding brings
  gone x = (λ j. span_crosses c x j && not (over-list s m size c x i j)) ∙ ap (λ (q : Connection). brings rest q x) (sym there)

  loads : (x : ℕ) → 1 ≤ x → load_in shorter x ≡ carried (load (list_in s) x) (load rest x) (load_in s x)
  loads x h =
      behind (loads_at + x) (λ z. omega arith) (inr (omega arith))
      ∙ turned.loads x h
      ∙ ap (λ (b : Bool). cond b (down (load_in s x)) (load_in s x)) (gone x)
      ∙ carried_drop (load rest x) (load_in s x) (brings rest (connection_at (list_in s) i) x)
      ∙ ap (λ (n : ℕ). carried n (load rest x) (load_in s x)) (sym (load_apart i (list_in s) x inside))

  dropped_at : Relisted s rest shorter
  dropped_at = record {
    long = length-set s₂ 2 (m - 1) ∙ closed.long ∙ turned.long;
    columns = same 0 (λ z. omega arith) (inl (omega arith)) (omega arith);
    tracks = same 1 (λ z. omega arith) (inl (omega arith)) (omega arith);
    count = number ∙ sym count_is;
    list = list;
    loads = loads;
    room = λ k a b. same k (λ z. omega (arith, count_is)) (inr (omega (arith, count_is))) b;
  }

-- the same, by the columns as the code reads them
pub dropped : (s s₁ s₂ : List ℕ) (m i l r : ℕ) → length s ≡ state_bytes → m ≡ m_in s → m ≤ most_connections → i < m → l ≡ (connection_in s i).left → r ≡ (connection_in s i).right →
    Turned (λ x. in_span l (r + 1) x && not (other_over s m i (connection_in s i).mark x)) Down s s₁ → Closed (record_at i) (connection_size * m) s₁ s₂ → Relisted s (edited (drop (i + 1)) (list_in s)) (set s₂ 2 (m - 1))
unfolding edited
dropped s s₁ s₂ m i l r long size most low el er turned closed =
    let z : i ≡ i + 1 - 1 = omega arith in
    let t = turned_same turned (λ x one. (λ j. in_span (el j) (er j + 1) x && not (other_over s m i (connection_in s i).mark x))) in
    subst (λ (n : ℕ). Relisted s (without n (list_in s)) (set s₂ 2 (m - 1))) z (dropped_at s s₁ s₂ m i long size most low t closed)
