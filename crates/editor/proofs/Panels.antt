-- A panel's list and its bytes tell the same; so what the core answers to them is the panel's answer, one answer only, and never Routed where the panel is red.
-- Assumes nothing.
use mathlib.Core.Path.{◌≡◌, refl, sym, ap, subst, ◌∙◌}
use mathlib.Core.Bool.{true}
use mathlib.Core.List.{List, [], ◌∷◌, map}
use Prim.Native.Nat.{ℕ, zero, suc, ◌+◌, ◌-◌, ◌*◌, ◌≤◌}
use native.Mathlib.Omega.{arith}
use lib.Dec.{eqb}
use lib.ListN.{length, get_or, take, drop}
use lib.Seq.{drop-cons}
use borrow.Author.Tests.{eqb-true, eqb-false}
use Rattle.std.specs.Prelude.{Result, Ok, Some}
use Rattle.facts.proofs.Bools.{whether, never}
use Rattle.refusals.specs.declared.Refusal.{Refusal}
use Rattle.channel.specs.Channel.{Connection, Job}
use Rattle.jobfile.specs.File.{connection_bytes, joined}
use Rattle.jobfile.specs.Rows.{tab, connection_size}
use Rattle.jobfile.proofs.Decode.{tab-length}
use Rattle.jobfile.proofs.Encode.{encode_one}
use Rattle.state.specs.State.{record_at, n_in, t_in, m_in, connection_in, list_in, Kept}
use Rattle.panel.specs.Does.{Signs}
use Rattle.panel.proofs.Colours.{Shows, panel_red_none}
use Rattle.route.specs.declared.Verdict.{Verdict}
use Rattle.route.specs.declared.Verdict.TheVariants as verdict
use Rattle.part.specs.Part.{tracks_in, track_of, job_of_part}
use Rattle.part.specs.P1.{p1}
use Rattle.part.specs.Writes.{file_of, part_rows}
use Rattle.editor.specs.Edits.{told_by, bytes_of, AsFile, refuses, routes, RoutesList, Edits}
use Rattle.editor.specs.Panels.{OfPart, record_of, records_in, RoutesPanel}
use Rattle.editor.proofs.Records.{as_records}
use Rattle.editor.proofs.Answers.{edits_one}

bytes_from_lem : (s : List ℕ) (k i : ℕ) → record_at i + connection_size * k ≤ length s → joined connection_bytes (tab (connection_in s) k i) ≡ take (connection_size * k) (drop (record_at i) s)
unfolding joined tab
bytes_from_lem s zero i h = refl
bytes_from_lem s (suc k) i h =
    let z : suc (suc (suc (connection_size * k))) ≡ connection_size * suc k = omega arith in
    let a : suc (record_at i) ≡ record_at i + 1 = omega arith in
    let b : suc (record_at i + 1) ≡ record_at i + 2 = omega arith in
    let c : suc (record_at i + 2) ≡ record_at (suc i) = omega arith in
    let cut : drop (record_at i) s ≡ get_or s (record_at i) 0 ∷ get_or s (record_at i + 1) 0 ∷ get_or s (record_at i + 2) 0 ∷ drop (record_at (suc i)) s =
    drop-cons s (record_at i) 0 (omega arith)
    ∙ ap (λ (q : List ℕ). get_or s (record_at i) 0 ∷ q)
    (ap (λ (n : ℕ). drop n s) a ∙ drop-cons s (record_at i + 1) 0 (omega arith)
    ∙ ap (λ (q : List ℕ). get_or s (record_at i + 1) 0 ∷ q) (ap (λ (n : ℕ). drop n s) b ∙ drop-cons s (record_at i + 2) 0 (omega arith) ∙ ap (λ (n : ℕ). get_or s (record_at i + 2) 0 ∷ drop n s) c)) in
    ap (λ (q : List ℕ). get_or s (record_at i) 0 ∷ get_or s (record_at i + 1) 0 ∷ get_or s (record_at i + 2) 0 ∷ q) (bytes_from_lem s k (suc i) (omega arith))
    ∙ sym (ap (take (connection_size * suc k)) cut ∙ ap (λ (n : ℕ). take n (get_or s (record_at i) 0 ∷ get_or s (record_at i + 1) 0 ∷ get_or s (record_at i + 2) 0 ∷ drop (record_at (suc i)) s)) (sym z))

pub told_back : (cs : List Connection) → told_by (map record_of cs) ≡ cs
told_back [] = refl
told_back (c ∷ cs) = ap (λ (q : List Connection). c ∷ q) (told_back cs)

pub routes_list : (s : List ℕ) (m k b : ℕ) (old new : List ℕ) (v : Result Verdict Refusal) → record_at m ≤ length s → m ≡ m_in s → RoutesList (take (record_at m - 3) (drop 3 s)) k b old v new → Edits (records_in s) k b old v new
routes_list s m k b old new v room size g =
    let z : record_at m - 3 ≡ connection_size * m = omega arith in
    let e : take (record_at m - 3) (drop 3 s) ≡ bytes_of (records_in s) = ap (λ (n : ℕ). take n (drop 3 s)) z ∙ sym (bytes_from_lem s m 0 (omega arith)) ∙ ap (λ (n : ℕ). joined connection_bytes (tab (connection_in s) n 0)) size ∙ ap (joined connection_bytes) (sym (told_back (list_in s))) in
    as_records (records_in s) k b old new v (subst (λ (q : List ℕ). AsFile (part_rows p1 q k) (file_of p1 q k) b old v new) e g)

-- any two answers are equal, and so are the labels that they leave
pub routes_panel_one : (s : List ℕ) (k b : ℕ) (old : List ℕ) (v v' : Result Verdict Refusal) (new new' : List ℕ) → RoutesPanel s k b old v new → RoutesPanel s k b old v' new' → (v ≡ v') × (new ≡ new')
routes_panel_one s k b old v v' new new' f g = whether (eqb (n_in s) p1.columns) (λ a. whether (eqb (t_in s) (tracks_in p1.table)) (λ c. edits_one (records_in s) k b old v v' new new' (f.same (shape a c)) (g.same (shape a c))) (λ c. other (λ h. eqb-false _ _ c h.1))) (λ a. other (λ h. eqb-false _ _ a h.0))
  where
    other : (OfPart p1 (n_in s) (t_in s) → ⊥) → (v ≡ v') × (new ≡ new')
    other n = ((f.other n).0 ∙ sym (g.other n).0, (f.other n).1 ∙ sym (g.other n).1)

    shape : eqb (n_in s) p1.columns ≡ true → eqb (t_in s) (tracks_in p1.table) ≡ true → OfPart p1 (n_in s) (t_in s)
    shape a c = (eqb-true _ _ a, eqb-true _ _ c)

-- a red panel is never routed: P1's answer to its list is another
module _ (s : List ℕ) (kept : Kept s) (r : ℕ) (red : Signs s (Some r)) (p1-shape : OfPart p1 (n_in s) (t_in s)) (k b : ℕ) (old new : List ℕ) (n : ℕ) where
  abbrev job : Job
  job = job_of_part p1 (told_by (records_in s)) k

  shown : Shows s job
  shown = record { columns = sym p1-shape.0; tracks = tab-length (track_of p1.table) (tracks_in p1.table) 0 ∙ sym p1-shape.1; connections = told_back (list_in s) }

  pub red_never_routed : RoutesPanel s k b old (Ok (verdict.Routed n)) new → ⊥
  red_never_routed g = answer (g.same p1-shape)
    where
      answer : Edits (records_in s) k b old (Ok (verdict.Routed n)) new → ⊥
      answer (refuses a h e f) = never cc
      answer (routes p h) =
          let j = h.1.0 in
          let e : j ≡ job = encode_one j job (sym h.1.1.file) in
          panel_red_none s kept j h.1.1.valid (subst (Shows s) (sym e) shown) r red (h.1.2.0, h.1.2.1.0.routing)
