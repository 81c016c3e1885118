-- What the entry answers: one answer only; refused exactly by the first of rows 2, 5 and 9 that holds; and else what the router answers to the file that P1's writer writes of the records' bytes.
-- Assumes nothing.
use mathlib.Core.Path.{◌≡◌, refl, ap, sym, subst, ◌∙◌}
use mathlib.Core.List.{List}
use mathlib.Core.Logic.{inl, inr, ◌↔◌}
use Prim.Native.Nat.{ℕ, ◌<◌}
use native.Mathlib.Omega.{arith}
use lib.ListN.{length, take, length-map}
use Rattle.std.specs.Prelude.{Result, Ok, Err}
use Rattle.refusals.specs.Table.{Rows, ◌or◌, room_row, Refuses, Passes, Sound, line, before}
use Rattle.refusals.specs.declared.Refusal.{Refusal}
use Rattle.refusals.specs.Refusal.{number_of, RefusedBy}
use Rattle.refusals.proofs.Laws.{refuses_left, refuses_right, refuses_row, behind_row, sound_front, sound_row, nowhere-one, broken_one, refused_one}
use Rattle.channel.specs.Valid.{Valid}
use Rattle.jobfile.specs.declared.Connection.{Connection as Record}
use Rattle.jobfile.specs.Rows.{m_of, file_rows}
use Rattle.jobfile.proofs.Encode.{m_is, file_facts}
use Rattle.jobfile.proofs.Exact.{facts_pass}
use Rattle.route.specs.declared.Verdict.{Verdict}
use Rattle.route.specs.Routes.{route_rows, Routes}
use Rattle.route.proofs.Answers.{routes_one}
use Rattle.part.specs.Part.{job_of_part}
use Rattle.part.specs.P1.{p1}
use Rattle.part.specs.Writes.{Writes}
use Rattle.part.proofs.Table.{p1_rule_lem}
use Rattle.part.proofs.RoundTrip.{part_valid, written-file}
use Rattle.editor.specs.Edits.{connection_of, told_by, bytes_of, editor_rows, editor_file, refuses, routes, Edits}
use Rattle.editor.proofs.Records.{connections_told, file_is, rows_to, rows_from}

module _ (cs : List Record) (k : ℕ) where
  editor_sound : Sound (editor_rows cs k)
  unfolding before
  editor_sound = sound_front (omega arith) nowhere-one (behind_row (omega arith)) (sound_row 5 (omega arith) broken_one)

  -- rows 2 and 5 stand before 9
  rows_before : (x q : ℕ) → editor_rows cs k x q → line x < line 9
  unfolding before
  rows_before x q (inl g) = let e = ap line g.0 in omega arith
  rows_before x q (inr g) = let e = ap line g.0 in omega arith

  -- where neither holds the job is valid, so no row of its file holds
  pub editor_valid : Passes (editor_rows cs k) → Valid (job_of_part p1 (told_by cs) k)
  editor_valid p = subst (λ z. Valid (job_of_part p1 z k)) (connections_told (told_by cs)) (part_valid p1 (bytes_of cs) k (λ x q g. p x q (rows_to cs k x q g)) p1_rule_lem)

  file_passes : Passes (editor_rows cs k) → Passes (file_rows (editor_file cs k))
  file_passes p = facts_pass (editor_file cs k) (file_facts (job_of_part p1 (told_by cs) k) (editor_valid p))

  file-count : m_of (editor_file cs k) ≡ length cs
  file-count = m_is (job_of_part p1 (told_by cs) k) ∙ length-map cs connection_of

  module _ (b : ℕ) (old : List ℕ) where
    -- any two answers are equal, and so are the labels that they leave
    pub edits_one : (v v' : Result Verdict Refusal) (new new' : List ℕ) → Edits cs k b old v new → Edits cs k b old v' new' → (v ≡ v') × (new ≡ new')
    edits_one v v' new new' (refuses r g e f) (refuses q h e' f') = (e ∙ ap Err (refused_one editor_sound r q g h) ∙ sym e', f ∙ sym f')
    edits_one v v' new new' (refuses r g e f) (routes n h) = absurd (n (number_of r.reason) r.place g.holds)
    edits_one v v' new new' (routes n h) (refuses r g e f) = absurd (n (number_of r.reason) r.place g.holds)
    edits_one v v' new new' (routes n h) (routes n' h') = routes_one (editor_file cs k) b old v v' new new' h h'

    -- the rows that fit a call: 2 and 5 of the records, and 9, M bytes for labels
    abbrev pub all_rows : Rows
    all_rows = editor_rows cs k or room_row (length cs) (length old)

    -- a refusal is given exactly by the first of them that holds, with every lent byte unchanged
    pub refused_exactly : (r : Refusal) (new : List ℕ) → Edits cs k b old (Err r) new ↔ (RefusedBy all_rows r × (new ≡ old))
    refused_exactly r new = (to, from)
      where
        by_room : (num place : ℕ) → Passes (editor_rows cs k) → route_rows (editor_file cs k) (length old) num place → Refuses all_rows num place
        by_room num place n (inl g) = absurd (file_passes n num place g)
        by_room num place n (inr g) = subst (λ x. Refuses all_rows x place) (sym g.0) (subst (λ x. Refuses all_rows 9 x) (sym g.1.1) (refuses_right n (refuses_row 9 0 (omega (arith, g.1.0, file-count), refl))))

        to : Edits cs k b old (Err r) new → RefusedBy all_rows r × (new ≡ old)
        to (refuses a g e f) =
            let x : r ≡ a = cc e in
            (subst (RefusedBy all_rows) (sym x) (refuses_left g (behind_row (let l = rows_before (number_of a.reason) a.place g.holds in omega arith))), f)
        to (routes n h) = (by_room (number_of r.reason) r.place n h.0.holds, h.1)

        decide : RefusedBy all_rows r → new ≡ old → all_rows (number_of r.reason) r.place → Edits cs k b old (Err r) new
        decide g e (inl h) = refuses r (record { holds = h; first = λ x q i. g.first x q (inl i) }) refl e
        decide g e (inr h) =
            let n : Passes (editor_rows cs k) = λ x q i. let l = rows_before x q i in omega (arith, g.first x q (inl i), ap line h.0) in
            let s : Refuses (route_rows (editor_file cs k) (length old)) 9 0 = refuses_right (file_passes n) (refuses_row 9 0 (omega (arith, h.1.0, file-count), refl)) in
            routes n (subst (λ x. Refuses (route_rows (editor_file cs k) (length old)) x r.place) (sym h.0) (subst (λ x. Refuses (route_rows (editor_file cs k) (length old)) 9 x) (sym h.1.1) s), e)

        from : RefusedBy all_rows r × (new ≡ old) → Edits cs k b old (Err r) new
        from g = decide g.0 g.1 g.0.holds

    -- where P1's writer writes a file of the records' bytes, the answer is the router's answer to that file
    pub as_written : (size : ℕ) (buf buf' : List ℕ) → Writes p1 (bytes_of cs) k buf (Ok size) buf' → (v v' : Result Verdict Refusal) (new new' : List ℕ) → Edits cs k b old v new → Routes (take size buf') b old v' new' → (v ≡ v') × (new ≡ new')
    as_written size buf buf' w v v' new new' g h =
        edits_one v v' new new' g (routes (λ x q i. w.0 x q (inl (rows_from cs k x q i))) (subst (λ f. Routes f b old v' new') (written-file p1 p1_rule_lem (bytes_of cs) k buf buf' size w ∙ file_is cs k) h))
