-- Any two answers of a call are equal, and so is every byte that it leaves. Assumes nothing.
use mathlib.Core.Path.{◌≡◌, refl, sym, ap, subst, ◌∙◌}
use mathlib.Core.Logic.{⊎_elim}
use mathlib.Core.List.{List}
use Prim.Native.Nat.{ℕ, zero, suc, ◌+◌, ◌-◌, ◌/◌, ◌%◌, ◌≤◌, ◌<◌}
use native.Mathlib.Omega.{arith}
use lib.ListN.{length, get_or}
use lib.Seq.{ext_get_or}
use Rattle.std.specs.Prelude.{Option, Some, None, Result, Ok, Err}
use Rattle.facts.proofs.Bools.{below}
use Rattle.refusals.specs.declared.Refusal.{Refusal}
use Rattle.refusals.specs.Table.{before, Sound}
use Rattle.refusals.specs.Refusal.{number_of}
use Rattle.refusals.proofs.Laws.{refused_one, sound_row, nowhere-one}
use Rattle.channel.specs.Channel.{Connection, connection_at}
use Rattle.loads.specs.Edits.{Edit, clear, add, drop, move}
use Rattle.loads.proofs.Rows.{rows_sound}
use Rattle.loads.proofs.Red.{red_one, red_green}
use Rattle.jobfile.specs.Rows.{connection_size}
use Rattle.jobfile.proofs.Decode.{tab-length}
use Rattle.state.specs.State.{record_at, loads_at, n_in, t_in, m_in, connection_in, list_in, load_in}
use Rattle.state.proofs.Covers.{list_at}
use Rattle.panel.specs.Does.{Relisted, Becomes, Does, make_rows, Makes, Signs}

-- the state with another list is one state
module _ (s a b : List ℕ) (cs : List Connection) (f : Relisted s cs a) (g : Relisted s cs b) where
  same_at : (i : ℕ) → i < length cs → connection_in a i ≡ connection_in b i
  same_at i h =
      let la : i < m_in a = omega (arith, ap length f.list, tab-length (connection_in a) (m_in a) 0) in
      let lb : i < m_in b = omega (arith, ap length g.list, tab-length (connection_in b) (m_in b) 0) in
      sym (list_at a (m_in a) i la) ∙ ap (λ (q : List Connection). connection_at q i) (f.list ∙ sym g.list) ∙ list_at b (m_in b) i lb

  -- a byte of a connection: which connection, and which of its three
  in_record : (k : ℕ) → 3 ≤ k → k < record_at (length cs) → get_or a k 0 ≡ get_or b k 0
  in_record k low high = which ((k - 3) % connection_size) refl
    where
      i : ℕ
      i = (k - 3) / connection_size

      h : i < length cs
      h = omega arith

      at : (n : ℕ) → n ≡ k → get_or a n 0 ≡ get_or b n 0 → get_or a k 0 ≡ get_or b k 0
      at n e = subst (λ (m : ℕ). get_or a m 0 ≡ get_or b m 0) e

      which : (r : ℕ) → (k - 3) % connection_size ≡ r → get_or a k 0 ≡ get_or b k 0
      which zero e = at (record_at i) (omega arith) (ap (λ (c : Connection). c.left) (same_at i h))
      which (suc zero) e = at (record_at i + 1) (omega arith) (ap (λ (c : Connection). c.right) (same_at i h))
      which (suc (suc zero)) e = at (record_at i + 2) (omega arith) (ap (λ (c : Connection). c.mark) (same_at i h))
      which (suc (suc (suc r))) e = absurd (omega arith)

  in_loads : (k : ℕ) → loads_at < k → get_or a k 0 ≡ get_or b k 0
  in_loads k h =
      let z : loads_at + (k - loads_at) ≡ k = omega arith in
      subst (λ (n : ℕ). get_or a n 0 ≡ get_or b n 0) z (f.loads (k - loads_at) (omega arith) ∙ sym (g.loads (k - loads_at) (omega arith)))

  pub relisted_one : a ≡ b
  relisted_one = ext_get_or 0 a b (f.long ∙ sym g.long) (λ k h.
      ⊎_elim
      (λ (l : k < record_at (length cs)). ⊎_elim (λ (m : k < 3). head k m) (λ (m : 3 ≤ k). in_record k m l) (below k 3))
      (λ (l : record_at (length cs) ≤ k). ⊎_elim (λ (m : loads_at < k). in_loads k m) (λ (m : k ≤ loads_at). f.room k l m ∙ sym (g.room k l m)) (below loads_at k))
      (below k (record_at (length cs))))
    where
      head : (k : ℕ) → k < 3 → get_or a k 0 ≡ get_or b k 0
      head zero h = f.columns ∙ sym g.columns
      head (suc zero) h = f.tracks ∙ sym g.tracks
      head (suc (suc zero)) h = f.count ∙ sym g.count
      head (suc (suc (suc k))) h = absurd (omega arith)

becomes_one : (s : List ℕ) (e : Edit) (a b : List ℕ) → Becomes s e a → Becomes s e b → a ≡ b
becomes_one s clear a b f g = f ∙ sym g
becomes_one s (add c) a b f g = relisted_one s a b _ f g
becomes_one s (drop k) a b f g = relisted_one s a b _ f g
becomes_one s (move k l r) a b f g = relisted_one s a b _ f g

pub does_one : (s : List ℕ) (e : Edit) (v v' : Result Unit Refusal) (a b : List ℕ) → Does s e v a → Does s e v' b → (v ≡ v') × (a ≡ b)
does_one s e (Ok done) (Ok done') a b f g = (refl, becomes_one s e a b f.1 g.1)
does_one s e (Ok done) (Err r) a b f g = absurd (f.0 (number_of r.reason) r.place g.0.holds)
does_one s e (Err r) (Ok done) a b f g = absurd (g.0 (number_of r.reason) r.place f.0.holds)
does_one s e (Err r) (Err r') a b f g = (ap (λ (x : Refusal). Err x) (refused_one (rows_sound (n_in s) (list_in s) e) r r' f.0 g.0), f.1 ∙ sym g.1)

make_sound : (n t : ℕ) → Sound (make_rows n t)
unfolding before
make_sound n t = sound_row 2 (omega arith) nowhere-one

pub makes_one : (n t : ℕ) (s : List ℕ) (v v' : Result Unit Refusal) (a b : List ℕ) → Makes n t s v a → Makes n t s v' b → (v ≡ v') × (a ≡ b)
makes_one n t s (Ok done) (Ok done') a b f g = (refl, f.1 ∙ sym g.1)
makes_one n t s (Ok done) (Err r) a b f g = absurd (f.0 (number_of r.reason) r.place g.0.holds)
makes_one n t s (Err r) (Ok done) a b f g = absurd (g.0 (number_of r.reason) r.place f.0.holds)
makes_one n t s (Err r) (Err r') a b f g = (ap (λ (x : Refusal). Err x) (refused_one (make_sound n t) r r' f.0 g.0), f.1 ∙ sym g.1)

pub signs_one : (s : List ℕ) (v v' : Option ℕ) → Signs s v → Signs s v' → v ≡ v'
signs_one s None None f g = refl
signs_one s None (Some r) f g = absurd (red_green (load_in s) (t_in s) (n_in s) r g f)
signs_one s (Some r) None f g = absurd (red_green (load_in s) (t_in s) (n_in s) r f g)
signs_one s (Some r) (Some r') f g = ap Some (red_one (load_in s) (t_in s) (n_in s) r r' f g)
