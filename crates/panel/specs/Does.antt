-- Document 02, A2: what each call answers, and what it leaves of every byte of any state that is lent. Assumes nothing: these are definitions.
use Rattle.std.specs.Prelude.{◌≡◌, cond, List, [], ◌∷◌, Option, Some, None, Result, Ok, Err, ℕ, ◌≤◌, ltb, length, get_or}
use Rattle.refusals.specs.declared.Refusal.{Refusal}
use Rattle.refusals.specs.Table.{Rows, row, nowhere, Passes}
use Rattle.refusals.specs.Refusal.{RefusedBy}
use Rattle.channel.specs.Limits.{Limits}
use Rattle.channel.specs.Channel.{Connection}
use Rattle.loads.specs.Loads.{load, Green, Red}
use Rattle.loads.specs.Edits.{Edit, clear, add, drop, move, edited, edit_rows}
use Rattle.state.specs.State.{record_at, loads_at, empty_panel, n_in, t_in, list_in, load_in, up, down}

-- a byte goes as a load goes, which was a and is b: one more, one less, or as it was
unfoldable pub carried : ℕ → ℕ → ℕ → ℕ
carried a b l = cond (ltb a b) (up l) (cond (ltb b a) (down l) l)

-- the state with the list cs for its own: N and T stay, each load goes as the list's does, and the room behind the list stays, column 0 with it
pub record Relisted (s : List ℕ) (cs : List Connection) (s' : List ℕ) : Type 0 where
  pub long : length s' ≡ length s
  pub columns : n_in s' ≡ n_in s
  pub tracks : t_in s' ≡ t_in s
  pub count : get_or s' 2 0 ≡ length cs
  pub list : list_in s' ≡ cs
  pub loads : (x : ℕ) → 1 ≤ x → load_in s' x ≡ carried (load (list_in s) x) (load cs x) (load_in s x)
  pub room : (k : ℕ) → record_at (length cs) ≤ k → k ≤ loads_at → get_or s' k 0 ≡ get_or s k 0

-- what an edit that is accepted makes of the state
abbrev pub Becomes : List ℕ → Edit → List ℕ → Type 0
Becomes s clear s' = s' ≡ empty_panel (n_in s) (t_in s)
Becomes s (add c) s' = Relisted s (edited (add c) (list_in s)) s'
Becomes s (drop k) s' = Relisted s (edited (drop k) (list_in s)) s'
Becomes s (move k l r) s' = Relisted s (edited (move k l r) (list_in s)) s'

-- an edit is done, or refused by the first of its rows that holds; a refusal changes no byte
abbrev pub Does : List ℕ → Edit → Result Unit Refusal → List ℕ → Type 0
Does s e (Ok done) s' = Passes (edit_rows (n_in s) (list_in s) e) × Becomes s e s'
Does s e (Err r) s' = RefusedBy (edit_rows (n_in s) (list_in s) e) r × (s' ≡ s)

-- row 2 of a new state, which has no connection, and the least K: N or T outside its limits
abbrev pub make_rows : ℕ → ℕ → Rows
make_rows n t = row 2 (nowhere (Limits n t 0 1 → ⊥))

abbrev pub Makes : ℕ → ℕ → List ℕ → Result Unit Refusal → List ℕ → Type 0
Makes n t s (Ok done) s' = Passes (make_rows n t) × (s' ≡ empty_panel n t)
Makes n t s (Err r) s' = RefusedBy (make_rows n t) r × (s' ≡ s)

-- the panel is red at the first column whose load exceeds T, or green
abbrev pub Signs : List ℕ → Option ℕ → Type 0
Signs s None = Green (load_in s) (t_in s) (n_in s)
Signs s (Some r) = Red (load_in s) (t_in s) (n_in s) r

-- calls one after the other, each answered in one way or the other
pub data Ran : List ℕ → List Edit → List ℕ → Type 0 where
  none : {s : List ℕ} → Ran s [] s
  one : {s t u : List ℕ} {e : Edit} {es : List Edit} (a : Result Unit Refusal) → Does s e a t → Ran t es u → Ran s (e ∷ es) u
