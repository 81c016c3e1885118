-- What the panel's colour says of routings: with true loads, red means that no job with its columns, tracks and connections is routable; so a routable channel is
-- never red. Assumes nothing.
use mathlib.Core.Path.{◌≡◌, refl, sym, subst}
use mathlib.Core.List.{List}
use Prim.Native.Nat.{ℕ, ◌<◌}
use native.Mathlib.Omega.{arith}
use Rattle.std.specs.Prelude.{Option, Some, None}
use Rattle.channel.specs.Channel.{Connection, Job, T}
use Rattle.channel.specs.Valid.{Valid}
use Rattle.channel.specs.Routing.{Routable}
use Rattle.loads.specs.Loads.{load}
use Rattle.loads.proofs.Red.{red_none}
use Rattle.state.specs.State.{n_in, t_in, list_in, Kept}
use Rattle.panel.specs.Does.{Signs}

-- a job of the panel: its columns, as many tracks, and its connections
pub record Shows (s : List ℕ) (j : Job) : Type 0 where
  pub columns : j.columns ≡ n_in s
  pub tracks : T j ≡ t_in s
  pub connections : j.connections ≡ list_in s

module _ (s : List ℕ) (kept : Kept s) (j : Job) (v : Valid j) (shows : Shows s j) where
  pub panel_red_none : (r : ℕ) → Signs s (Some r) → Routable j → ⊥
  panel_red_none r red = red_none j v r red.low (omega (arith, red.high, shows.columns)) (subst (λ (cs : List Connection). T j < load cs r) (sym shows.connections) (omega (arith, red.over, kept.loads r red.low red.high, shows.tracks)))

  pub routable_panel_green : Routable j → (c : Option ℕ) → Signs s c → c ≡ None
  routable_panel_green h None g = refl
  routable_panel_green h (Some r) g = absurd (panel_red_none r g h)
