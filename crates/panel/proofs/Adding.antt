-- Why `append` is right: the loads go up where the connection brings a net, and it stands behind the last. Assumes nothing.
use mathlib.Core.Path.{◌≡◌, sym, ap, ◌∙◌}
use mathlib.Core.Bool.{Bool, ◌&&◌, not, cond}
use mathlib.Core.Logic.{◌⊎◌, inl, inr, ⊎_elim}
use mathlib.Core.List.{List, [], ◌∷◌, ◌++◌}
use Prim.Native.Nat.{ℕ, suc, ◌+◌, ◌≤◌, ◌<◌}
use native.Mathlib.Omega.{arith}
use lib.ListN.{length, get_or, set, length-set, length-append}
use lib.Seq.{get_or-set_same, get_or-set_other}
use Rattle.channel.specs.Limits.{most_connections}
use Rattle.channel.specs.Channel.{Connection}
use Rattle.loads.specs.Loads.{brings, load}
use Rattle.loads.specs.Edits.{add, edited}
use Rattle.loads.proofs.Edits.{load_add}
use Rattle.jobfile.specs.Rows.{tab}
use Rattle.jobfile.proofs.Decode.{tab-length}
use Rattle.state.specs.declared.Way.TheVariants.{Up}
use Rattle.state.specs.State.{record_at, loads_at, state_bytes, m_in, connection_in, list_in, load_in, up}
use Rattle.state.specs.Walks.{in_span, other_over, Turned}
use Rattle.state.proofs.Lists.{tab-same, tab_more}
use Rattle.panel.specs.Does.{carried, Relisted}
use Rattle.panel.proofs.Carried.{carried_add, span_crosses, over_all}

module _ (s s₁ : List ℕ) (m l r k : ℕ) (long : length s ≡ state_bytes) (size : m ≡ m_in s) (few : m < most_connections) (turned : Turned (λ x. in_span l (r + 1) x && not (other_over s m m k x)) Up s s₁) where
  abbrev c : Connection
  c = record { left = l; right = r; mark = k }

  abbrev s₂ : List ℕ
  s₂ = set s₁ (record_at m) l

  abbrev s₃ : List ℕ
  s₃ = set s₂ (record_at m + 1) r

  abbrev s₄ : List ℕ
  s₄ = set s₃ (record_at m + 2) k

  abbrev written : List ℕ
  written = set s₄ 2 (m + 1)

  here : length s₁ ≡ state_bytes
  here = turned.long ∙ long

  other : (i : ℕ) → (i ≡ 2 → ⊥) → (i < record_at m) ⊎ (record_at (suc m) ≤ i) → get_or written i 0 ≡ get_or s₁ i 0
  other i n o =
      get_or-set_other s₄ 2 i (m + 1) 0 n
      ∙ get_or-set_other s₃ (record_at m + 2) i k 0 (λ z. ⊎_elim (λ (a : i < record_at m). omega arith) (λ (a : record_at (suc m) ≤ i). omega arith) o)
      ∙ get_or-set_other s₂ (record_at m + 1) i r 0 (λ z. ⊎_elim (λ (a : i < record_at m). omega arith) (λ (a : record_at (suc m) ≤ i). omega arith) o)
      ∙ get_or-set_other s₁ (record_at m) i l 0 (λ z. ⊎_elim (λ (a : i < record_at m). omega arith) (λ (a : record_at (suc m) ≤ i). omega arith) o)

  low : (i : ℕ) → (i ≡ 2 → ⊥) → (i < record_at m) ⊎ (record_at (suc m) ≤ i) → i ≤ loads_at → get_or written i 0 ≡ get_or s i 0
  low i n o h = other i n o ∙ turned.others i h

  number : get_or written 2 0 ≡ m + 1
  number = get_or-set_same s₄ 2 (m + 1) 0 (omega (arith, here, length-set s₁ (record_at m) l, length-set s₂ (record_at m + 1) r, length-set s₃ (record_at m + 2) k))

  record_left : get_or written (record_at m) 0 ≡ l
  record_left =
      get_or-set_other s₄ 2 (record_at m) (m + 1) 0 (λ z. omega arith)
      ∙ get_or-set_other s₃ (record_at m + 2) (record_at m) k 0 (λ z. omega arith)
      ∙ get_or-set_other s₂ (record_at m + 1) (record_at m) r 0 (λ z. omega arith)
      ∙ get_or-set_same s₁ (record_at m) l 0 (omega (arith, here))

  record_right : get_or written (record_at m + 1) 0 ≡ r
  record_right =
      get_or-set_other s₄ 2 (record_at m + 1) (m + 1) 0 (λ z. omega arith)
      ∙ get_or-set_other s₃ (record_at m + 2) (record_at m + 1) k 0 (λ z. omega arith)
      ∙ get_or-set_same s₂ (record_at m + 1) r 0 (omega (arith, here, length-set s₁ (record_at m) l))

  record_mark : get_or written (record_at m + 2) 0 ≡ k
  record_mark =
      get_or-set_other s₄ 2 (record_at m + 2) (m + 1) 0 (λ z. omega arith)
      ∙ get_or-set_same s₃ (record_at m + 2) k 0 (omega (arith, here, length-set s₁ (record_at m) l, length-set s₂ (record_at m + 1) r))

  last : connection_in written m ≡ c
  last = (λ i. record { left = record_left i; right = record_right i; mark = record_mark i })

  earlier : (i : ℕ) → i < m → connection_in written i ≡ connection_in s i
  earlier i h = (λ x. record { left = low (record_at i) (λ z. omega arith) (inl (omega arith)) (omega arith) x; right = low (record_at i + 1) (λ z. omega arith) (inl (omega arith)) (omega arith) x; mark = low (record_at i + 2) (λ z. omega arith) (inl (omega arith)) (omega arith) x })

  list : list_in written ≡ list_in s ++ (c ∷ [])
  list =
      let n : m_in written ≡ suc m = omega (arith, number) in
      let z : 0 + m ≡ m = omega arith in
      ap (λ (q : ℕ). tab (connection_in written) q 0) n
      ∙ tab_more (connection_in written) m 0
      ∙ (λ i. tab-same (connection_in written) (connection_in s) m 0 (λ j a b. earlier j (omega arith)) i ++ ((ap (connection_in written) z ∙ last) i ∷ []))
      ∙ ap (λ (q : ℕ). tab (connection_in s) q 0 ++ (c ∷ [])) size

  count_is : length (list_in s ++ (c ∷ [])) ≡ m + 1
  count_is = length-append (list_in s) (c ∷ []) ∙ (λ i. (tab-length (connection_in s) (m_in s) 0 ∙ sym size) i + 1)

  new : (x : ℕ) → (in_span l (r + 1) x && not (other_over s m m k x)) ≡ brings (list_in s) c x
  unfolding brings
  new x = (λ i. span_crosses c x i && not (over_all s m size c x i))

  loads : (x : ℕ) → 1 ≤ x → load_in written x ≡ carried (load (list_in s) x) (load (list_in s ++ (c ∷ [])) x) (load_in s x)
  loads x h =
      other (loads_at + x) (λ z. omega arith) (inr (omega arith))
      ∙ turned.loads x h
      ∙ ap (λ (b : Bool). cond b (up (load_in s x)) (load_in s x)) (new x)
      ∙ carried_add (load (list_in s) x) (load_in s x) (brings (list_in s) c x)
      ∙ ap (λ (n : ℕ). carried (load (list_in s) x) n (load_in s x)) (sym (load_add (list_in s) c x))

  pub added : Relisted s (edited (add c) (list_in s)) written
  unfolding edited
  added = record {
    long = length-set s₄ 2 (m + 1) ∙ length-set s₃ (record_at m + 2) k ∙ length-set s₂ (record_at m + 1) r ∙ length-set s₁ (record_at m) l ∙ turned.long;
    columns = low 0 (λ z. omega arith) (inl (omega arith)) (omega arith);
    tracks = low 1 (λ z. omega arith) (inl (omega arith)) (omega arith);
    count = number ∙ sym count_is;
    list = list;
    loads = loads;
    room = λ i a b. low i (λ z. omega arith) (inr (omega (arith, count_is))) b;
  }
