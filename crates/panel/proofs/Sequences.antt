-- What is true of the loads before a call is true after it; so from a new or a cleared state on, after any sequence of calls, answered in one way or the other, they
-- are the loads of the list that the calls describe. Assumes nothing.
use mathlib.Core.Path.{◌≡◌, refl, sym, ap, subst, ◌∙◌}
use mathlib.Core.Bool.{Bool, cond}
use mathlib.Core.Logic.{⊎_elim}
use mathlib.Core.List.{List, []}
use Prim.Native.Nat.{ℕ, suc, ◌+◌, ◌-◌, ◌≤◌, ◌<◌}
use native.Mathlib.Omega.{arith}
use lib.ListN.{length, get_or}
use Rattle.facts.proofs.Bools.{below, never}
use Rattle.facts.proofs.Lists.{zeros}
use Rattle.std.specs.Prelude.{Result, Ok, Err}
use Rattle.refusals.specs.declared.Refusal.{Refusal}
use Rattle.refusals.specs.Refusal.{number_of}
use Rattle.channel.specs.Limits.{most_connections}
use Rattle.channel.specs.Channel.{Connection}
use Rattle.loads.specs.Loads.{load}
use Rattle.loads.specs.Edits.{Edit, clear, add, drop, move, edited, accepted, after}
use Rattle.loads.proofs.Edits.{load_most, Near, load-edited}
use Rattle.loads.proofs.Rows.{passes_accepted, refuses_accepted}
use Rattle.jobfile.specs.Rows.{tab}
use Rattle.jobfile.proofs.Decode.{tab-length}
use Rattle.state.specs.State.{loads_at, state_bytes, n_in, t_in, m_in, connection_in, list_in, Kept, empty_panel}
use Rattle.state.proofs.Walks.{up_more}
use Rattle.panel.specs.Does.{carried, Relisted, Becomes, Does, Makes, Ran, none, one}
use Rattle.panel.proofs.Carried.{carried-up, carried-down, carried_same}

list_length : (s : List ℕ) → length (list_in s) ≤ most_connections
list_length s = omega (arith, tab-length (connection_in s) (m_in s) 0)

-- a byte that is the load goes with it
carried_near : (a b : ℕ) → Near a b → b < 255 → carried a b a ≡ b
carried_near a b near h =
    ⊎_elim
    (λ (l : a < b). carried-up a b a l ∙ up_more a (omega arith) ∙ (let z : a + 1 ≡ b = omega (arith, near.below) in z))
    (λ (l : b ≤ a). ⊎_elim (λ (m : b < a). carried-down a b a m ∙ (let z : a - 1 ≡ b = omega (arith, near.above) in z)) (λ (m : a ≤ b). let z : a ≡ b = omega arith in carried_same a b a z ∙ z) (below b a))
    (below a b)

pub relisted_kept : {s s' : List ℕ} {cs : List Connection} → Relisted s cs s' → ((x : ℕ) → Near (load (list_in s) x) (load cs x)) → Kept s → Kept s'
relisted_kept {s} {s'} {cs} g near kept = record {
  loads = λ x low high.
      g.loads x low
      ∙ ap (λ (l : ℕ). carried (load (list_in s) x) (load cs x) l) (kept.loads x low (omega (arith, g.columns)))
      ∙ carried_near (load (list_in s) x) (load cs x) (near x) (omega (arith, load_most cs x, ap length g.list, list_length s'))
      ∙ ap (λ (q : List Connection). load q x) (sym g.list);
}

-- a state with no connection
empty_zero : (n t k : ℕ) → 2 ≤ k → get_or (empty_panel n t) k 0 ≡ 0
empty_zero n t k h = let z : suc (suc (k - 2)) ≡ k = omega arith in subst (λ (i : ℕ). get_or (empty_panel n t) i 0 ≡ 0) z (zeros (state_bytes - 2) (k - 2))

empty_list : (n t : ℕ) → list_in (empty_panel n t) ≡ []
unfolding tab
empty_list n t = refl

pub empty_kept : (n t : ℕ) → Kept (empty_panel n t)
unfolding load
empty_kept n t = record { loads = λ x low high. empty_zero n t (loads_at + x) (omega arith) ∙ sym (ap (λ (q : List Connection). load q x) (empty_list n t)) }

-- one call
pub does_kept : (s : List ℕ) (e : Edit) (a : Result Unit Refusal) (s' : List ℕ) → Does s e a s' → Kept s → Kept s'
does_kept s clear (Ok done) s' d k = subst Kept (sym d.1) (empty_kept (n_in s) (t_in s))
does_kept s (add c) (Ok done) s' d k = relisted_kept d.1 (λ x. load-edited (n_in s) (list_in s) (add c) x (λ e. never cc) (passes_accepted (n_in s) (list_in s) (add c) d.0)) k
does_kept s (drop i) (Ok done) s' d k = relisted_kept d.1 (λ x. load-edited (n_in s) (list_in s) (drop i) x (λ e. never cc) (passes_accepted (n_in s) (list_in s) (drop i) d.0)) k
does_kept s (move i l r) (Ok done) s' d k = relisted_kept d.1 (λ x. load-edited (n_in s) (list_in s) (move i l r) x (λ e. never cc) (passes_accepted (n_in s) (list_in s) (move i l r) d.0)) k
does_kept s e (Err r) s' d k = subst Kept (sym d.1) k

-- what it leaves of N, T and the list
pub record Leaves (s : List ℕ) (cs : List Connection) (s' : List ℕ) : Type 0 where
  pub columns : n_in s' ≡ n_in s
  pub tracks : t_in s' ≡ t_in s
  pub list : list_in s' ≡ cs

becomes_leaves : (s : List ℕ) (e : Edit) (s' : List ℕ) → Becomes s e s' → Leaves s (edited e (list_in s)) s'
unfolding edited
becomes_leaves s clear s' g = record { columns = ap n_in g; tracks = ap t_in g; list = ap list_in g ∙ empty_list (n_in s) (t_in s) }
becomes_leaves s (add c) s' g = record { columns = g.columns; tracks = g.tracks; list = g.list }
becomes_leaves s (drop k) s' g = record { columns = g.columns; tracks = g.tracks; list = g.list }
becomes_leaves s (move k l r) s' g = record { columns = g.columns; tracks = g.tracks; list = g.list }

abbrev described : List ℕ → Edit → List Connection
described s e = cond (accepted (n_in s) (list_in s) e) (edited e (list_in s)) (list_in s)

pub does_leaves : (s : List ℕ) (e : Edit) (a : Result Unit Refusal) (s' : List ℕ) → Does s e a s' → Leaves s (described s e) s'
does_leaves s e (Ok done) s' d = subst (λ (b : Bool). Leaves s (cond b (edited e (list_in s)) (list_in s)) s') (sym (passes_accepted (n_in s) (list_in s) e d.0)) (becomes_leaves s e s' d.1)
does_leaves s e (Err r) s' d = subst (λ (b : Bool). Leaves s (cond b (edited e (list_in s)) (list_in s)) s') (sym (refuses_accepted (n_in s) (list_in s) e (number_of r.reason) r.place d.0)) (record { columns = ap n_in d.1; tracks = ap t_in d.1; list = ap list_in d.1 })

-- any sequence of calls
pub ran_leaves : {s u : List ℕ} {es : List Edit} → Ran s es u → Leaves s (after (n_in s) es (list_in s)) u
unfolding after
ran_leaves none = record { columns = refl; tracks = refl; list = refl }
ran_leaves {s} (one {t = t} {e = e} {es = es} a d r) =
    let g = does_leaves s e a t d in
    let h = ran_leaves r in
    record { columns = h.columns ∙ g.columns; tracks = h.tracks ∙ g.tracks; list = h.list ∙ (λ i. after (g.columns i) es (g.list i)) }

pub ran_kept : {s u : List ℕ} {es : List Edit} → Ran s es u → Kept s → Kept u
ran_kept none k = k
ran_kept {s} (one {t = t} {e = e} a d r) k = ran_kept r (does_kept s e a t d k)

-- from a state with no connection on
empty_ran : {n t : ℕ} {u : List ℕ} {es : List Edit} → Ran (empty_panel n t) es u → Kept u × Leaves (empty_panel n t) (after n es []) u
empty_ran {n} {t} {u} {es} r = (ran_kept r (empty_kept n t), subst (λ (q : List Connection). Leaves (empty_panel n t) (after n es q) u) (empty_list n t) (ran_leaves r))

-- from `clear` on, whatever was lent; and from `make` on
pub cleared_ran : {s t u : List ℕ} {es : List Edit} → Becomes s clear t → Ran t es u → Kept u × Leaves s (after (n_in s) es []) u
cleared_ran {s} {t} {u} {es} e r = let g = empty_ran (subst (λ (q : List ℕ). Ran q es u) e r) in (g.0, record { columns = g.1.columns; tracks = g.1.tracks; list = g.1.list })

pub made_ran : {n t : ℕ} (s : List ℕ) {s' u : List ℕ} {es : List Edit} → Makes n t s (Ok tt) s' → Ran s' es u → Kept u × (n_in u ≡ n) × (t_in u ≡ t) × (list_in u ≡ after n es [])
made_ran s {u = u} {es = es} m r = let g = empty_ran (subst (λ (q : List ℕ). Ran q es u) m.1 r) in (g.0, g.1.columns, g.1.tracks, g.1.list)
