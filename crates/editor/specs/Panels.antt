-- Document 02, A2: routing an edited list gives what its job file would give. Assumes nothing: these are definitions.
use Rattle.std.specs.Prelude.{◌≡◌, List, map, Result, Err, ℕ}
use Rattle.refusals.specs.declared.Reason.TheVariants as reason
use Rattle.refusals.specs.declared.Refusal.{Refusal}
use Rattle.channel.specs.Channel.{Connection}
use Rattle.jobfile.specs.declared.Connection.{Connection as Record}
use Rattle.state.specs.State.{n_in, t_in, list_in}
use Rattle.route.specs.declared.Verdict.{Verdict}
use Rattle.part.specs.Part.{Part, tracks_in}
use Rattle.part.specs.P1.{p1}
use Rattle.editor.specs.Edits.{Edits}

-- N and T are those of a part
abbrev pub OfPart : Part → ℕ → ℕ → Type 0
OfPart p n t = (n ≡ p.columns) × (t ≡ tracks_in p.table)

-- the list as code holds connections
abbrev pub record_of : Connection → Record
record_of c = record { left = c.left; right = c.right; mark = c.mark }

abbrev pub records_in : List ℕ → List Record
records_in s = map record_of (list_in s)

-- a panel that is not of P1's shape is refused by 2; the list of another is answered as the editor's entry answers it
pub record RoutesPanel (s : List ℕ) (k b : ℕ) (old : List ℕ) (v : Result Verdict Refusal) (new : List ℕ) : Type 0 where
  pub other : (OfPart p1 (n_in s) (t_in s) → ⊥) → (v ≡ Err (record { reason = reason.Sizes; place = 0 })) × (new ≡ old)
  pub same : OfPart p1 (n_in s) (t_in s) → Edits (records_in s) k b old v new
