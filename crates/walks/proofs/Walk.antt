-- Two laws of every walk of a function's MIR: what is had after a call, and how a walk becomes the function's theorem. Assumes nothing.
use mathlib.Core.List.{List, [], ◌∷◌}
use seplogic.Ra.Ura.{Ura}
use mir.Syntax.{Fn}
use mir.Val.{Val}
use base.Logic.{ent, sep, ex, id⊢}
use base.Fml.{Fml}
use prog.Model.{Model}
use prog.Routine.{Callee, Env}
use prog.Wp.{WpFn, Closed}
use types.Logic.{Logic, sem}
use contract.Lifetimes.{Lfts, Shares, AllOutlive}
use contract.Monad.{fact}
use contract.Running.{Running, tables, tables_of}
use types.Kit.{Goal, Soaks, Item, Seq, ‵, raw, ◌⊛◌, some, later, mean, ◌$◌, move, drop, use1, split, pick, await}
use sound.WpLaws.{WpFn-mono}
use denote.RattleType.{RattleType, flat}
use denote.Laws.{Is, Are, Ises, Spells, Tellss, valss, shows}
use denote.Signature.{types_at}
use denote.Steps.{heard, peeks}
use denote.Triple.Clauses.{Clauses, Ended, closing}
use denote.Triple.Entry.{Args, on_entry}
use denote.Triple.Spec.{triple_of}
use denote.Triple.Statement.{Triple}
use denote.Triple.Table.{entered}
use denote.Triple.Walked.{Stays, AllGo, walk_of, walked, walk_Meets}

module _ {M : Type 1} {𝓤 : Ura M} {𝓛 : Logic 𝓤} {K : Type 0} {Γ : List (Item 𝓤)} {G : Goal 𝓤 𝓛.H} where
  -- after a call that returned the machine value u: what the result owns, the tokens, what is known of the last values, and what the `ensures` says of both
  open 𝓛 use {H}

  pub told_last : K → Soaks G → (tokens : Item 𝓤) (R : RattleType) (u : Val) {L : Type 0} (last : L → Fml) (Says : R.Denot → L → Type 0)
      → ((r : R.Denot) (ws : L) → Says r ws → Is R r (u ∷ []) → Seq K 𝓛 (‵ (R.own_val r (u ∷ [])) ∷ tokens ∷ ‵ (last ws) ∷ Γ) G)
      → Seq K 𝓛 (raw (H.⇛ (ex 𝓤 (λ (r : R.Denot). sep 𝓤 (sep 𝓤 (mean 𝓛 tokens) (sem 𝓛 (R.own_val r (u ∷ [])))) (ex 𝓤 (λ (ws : L). sep 𝓤 (sem 𝓛 (last ws)) (fact 𝓤 (Says r ws))))))) ∷ Γ) G
  told_last t z tokens R u {L} last Says k =
      use1 𝓛 (later (some (λ (r : R.Denot). (tokens ⊛ ‵ (R.own_val r (u ∷ []))) ⊛ some (λ (ws : L). ‵ (last ws) ⊛ raw (fact 𝓤 (Says r ws)))))) (id⊢ 𝓤 _) $ await t z $ pick t (λ r.
      split t $ move t (1 ∷ []) $ pick t (λ ws. split t $ move t (1 ∷ []) $ heard t (Says r ws) (λ e. move t (1 ∷ []) $ split t $ move t (1 ∷ []) $
      peeks t R (Is R) (shows 𝓛 R) r (u ∷ []) (λ is. k r ws e is))))

  -- the same where nothing is said of last values
  pub told : K → Soaks G → (tokens : Item 𝓤) (R : RattleType) (u : Val) {L : Type 0} (last : L → Fml) (Says : R.Denot → Type 0)
      → ((r : R.Denot) → Says r → Is R r (u ∷ []) → Seq K 𝓛 (‵ (R.own_val r (u ∷ [])) ∷ tokens ∷ Γ) G)
      → Seq K 𝓛 (raw (H.⇛ (ex 𝓤 (λ (r : R.Denot). sep 𝓤 (sep 𝓤 (mean 𝓛 tokens) (sem 𝓛 (R.own_val r (u ∷ [])))) (ex 𝓤 (λ (ws : L). sep 𝓤 (sem 𝓛 (last ws)) (fact 𝓤 (Says r))))))) ∷ Γ) G
  told t z tokens R u last Says k = told_last t z tokens R u last (λ r ws. Says r) (λ r ws e is. move t (2 ∷ []) $ drop t $ k r e is)

module _ {M : Type 1} {𝓤 : Ura M} (𝓛 : Logic 𝓤) (𝓜 : Model 𝓤 𝓛.H) (𝓡 : Running 𝓤 𝓛.H 𝓜) (T : Ended) (hs : Stays T.signature.params T.kept) (c : Clauses 𝓤 T) (γ : Env) (k : Callee) (e : Fn) where
  -- a walk from the parameters' machine values, written out, is the contract of the function's entry
  open 𝓛 use {H}

  pub stands : Closed 𝓤 H (tables 𝓤 H 𝓜 𝓡 γ).C (tables 𝓤 H 𝓜 𝓡 γ).Λ k e → AllGo 𝓛 T.signature.lifetimes T.signature.params T.kept hs
      → (sp : (κs : Lfts T.signature.lifetimes) → Spells (types_at T.signature.params κs)) → ((κs : Lfts T.signature.lifetimes) → Tellss (types_at T.signature.params κs) (Ises (types_at T.signature.params κs)) (sp κs))
      → ((κs : Lfts T.signature.lifetimes) (qs : Shares T.signature.lifetimes) (bounds : AllOutlive T.signature.lifetimes T.signature.outlives κs) (a : Args T.signature κs) (g : (c κs a).ghost)
      → Are (types_at T.signature.params κs) (Ises (types_at T.signature.params κs)) a (valss (types_at T.signature.params κs) (sp κs) a)
      → ent 𝓤 (sep 𝓤 (on_entry 𝓛 T.signature κs qs a (valss (types_at T.signature.params κs) (sp κs) a)) ((c κs a).requires g))
      (WpFn 𝓤 H (tables 𝓤 H 𝓜 𝓡 γ).C (tables 𝓤 H 𝓜 𝓡 γ).Λ e (flat (types_at T.signature.params κs) (valss (types_at T.signature.params κs) (sp κs) a)) ((walk_of 𝓛 T hs c).post ((κs, qs, bounds, a, valss (types_at T.signature.params κs) (sp κs) a), g))))
      → Triple 𝓤 ((tables 𝓤 H 𝓜 𝓡 γ).C k) (triple_of 𝓛 T.signature (closing 𝓛 T c))
  unfolding tables_of
  stands closed goes sp tl walk =
      let run = WpFn 𝓤 H (tables 𝓤 H 𝓜 𝓡 γ).C (tables 𝓤 H 𝓜 𝓡 γ).Λ e in
      entered 𝓤 H (triple_of 𝓛 T.signature (closing 𝓛 T c)) (tables 𝓤 H 𝓜 𝓡 γ).C (tables 𝓤 H 𝓜 𝓡 γ).Λ k e closed
      (walk_Meets 𝓛 T hs goes c run (WpFn-mono 𝓤 H 𝓛.laws (tables_of 𝓤 H 𝓜 (tables 𝓤 H 𝓜 𝓡 γ)) e) (walked 𝓛 T hs c run sp tl walk))
