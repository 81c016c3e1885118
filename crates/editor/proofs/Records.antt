-- The records and their bytes: the bytes of one more, each connection read back from them, and the same rows and the same file; so what is answered to the bytes is
-- the entry's answer. Assumes nothing.
use mathlib.Core.Path.{◌≡◌, refl, ap, sym, subst, ◌∙◌}
use mathlib.Core.List.{List, [], ◌∷◌, ◌++◌, append_assoc}
use mathlib.Core.Logic.{inl, inr}
use Prim.Native.Nat.{ℕ, zero, suc, ◌+◌, ◌*◌, ◌<◌}
use native.Mathlib.Nat.{zero-add}
use native.Mathlib.Numerals.{add-one}
use native.Mathlib.Omega.{arith}
use lib.ListN.{length, get_or, take, length-map, get_or-map}
use lib.Seq.{get_or-drop, ext_get_or, take_at, length-take-le}
use Rattle.std.specs.Prelude.{Result}
use Rattle.refusals.specs.Table.{Refuses, before}
use Rattle.refusals.specs.declared.Refusal.{Refusal}
use Rattle.refusals.specs.Refusal.{number_of}
use Rattle.refusals.proofs.Laws.{refuses_left, refuses_row, behind_row}
use Rattle.channel.specs.Limits.{most_connections, Limits}
use Rattle.channel.specs.Channel.{Connection}
use Rattle.channel.specs.Valid.{ConnectionRule}
use Rattle.jobfile.specs.declared.Connection.{Connection as Record}
use Rattle.jobfile.specs.File.{connection_bytes, joined, encode}
use Rattle.jobfile.specs.Rows.{connection_size, connection_read, ConnectionKept, tab}
use Rattle.jobfile.proofs.Decode.{tab-length, tab-at}
use Rattle.jobfile.proofs.Encode.{connections_length}
use Rattle.route.specs.declared.Verdict.{Verdict}
use Rattle.route.specs.Routes.{Routes}
use Rattle.part.specs.Part.{job_of_part}
use Rattle.part.specs.P1.{p1}
use Rattle.part.specs.Writes.{count_of, connections_of, Takes, part_rows, file_of}
use Rattle.editor.specs.Edits.{connection_of, told_by, bytes_of, none, editor_rows, editor_file, AsFile, refuses, routes, Edits}

-- each connection is read back from the bytes of all
read_at : (xs : List Connection) (i : ℕ) (d : Connection) → i < length xs → connection_read (joined connection_bytes xs) (3 * i) ≡ get_or xs i d
unfolding joined
read_at [] i d l = absurd (omega arith)
read_at (x ∷ xs) zero d l = refl
read_at (x ∷ xs) (suc i) d l =
    (λ j. record { left = shift (3 * suc i) (3 * i) (omega arith) j; right = shift (3 * suc i + 1) (3 * i + 1) (omega arith) j; mark = shift (3 * suc i + 2) (3 * i + 2) (omega arith) j })
    ∙ read_at xs i d (omega arith)
  where
    shift : (n m : ℕ) → n ≡ 3 + m → get_or (joined connection_bytes (x ∷ xs)) n 0 ≡ get_or (joined connection_bytes xs) m 0
    shift n m e = ap (λ z. get_or (joined connection_bytes (x ∷ xs)) z 0) e ∙ sym (get_or-drop 3 (joined connection_bytes (x ∷ xs)) m 0)

bytes_count : (xs : List Connection) → count_of (joined connection_bytes xs) ≡ length xs
bytes_count xs = omega (arith, connections_length xs)

pub connections_told : (xs : List Connection) → connections_of (joined connection_bytes xs) ≡ xs
connections_told xs =
    let d : Connection = record { left = 0; right = 0; mark = 0 } in
    let f : List ℕ = joined connection_bytes xs in
    let g : ℕ → Connection = λ i. connection_read f (3 * i) in
    ap (λ z. tab g z 0) (bytes_count xs)
    ∙ ext_get_or d (tab g (length xs) 0) xs (tab-length g (length xs) 0) (λ i l.
    let m : i < length xs = omega (arith, tab-length g (length xs) 0) in
    tab-at g d (length xs) 0 i m ∙ ap g (zero-add i) ∙ read_at xs i d m)

-- the bytes of one record more
bytes_more : (cs : List Record) (i : ℕ) → i < length cs → bytes_of (take (suc i) cs) ≡ bytes_of (take i cs) ++ connection_bytes (connection_of (get_or cs i none))
unfolding joined
bytes_more [] i l = absurd (omega arith)
bytes_more (c ∷ cs) zero l = refl
bytes_more (c ∷ cs) (suc i) l = ap (λ z. connection_bytes (connection_of c) ++ z) (bytes_more cs i (omega arith))

pub bytes_long : (cs : List Record) → length (bytes_of cs) ≡ connection_size * length cs
bytes_long cs = connections_length (told_by cs) ∙ ap (λ z. connection_size * z) (length-map cs connection_of)

-- written behind those of the records before it, they stand in front
pub front_more : (cs : List Record) (i : ℕ) (front rest : List ℕ) → i < length cs → front ≡ bytes_of (take i cs)
    → take (connection_size * (i + 1)) (front ++ (connection_bytes (connection_of (get_or cs i none)) ++ rest)) ≡ bytes_of (take (i + 1) cs)
front_more cs i front rest l e =
    let one = connection_bytes (connection_of (get_or cs i none)) in
    let more : front ++ one ≡ bytes_of (take (i + 1) cs) = rw (e, add-one) (sym (bytes_more cs i l)) in
    let long : length (bytes_of (take (i + 1) cs)) ≡ connection_size * (i + 1) = bytes_long (take (i + 1) cs) ∙ ap (λ z. connection_size * z) (length-take-le (i + 1) cs (omega arith)) in
    ap (take (connection_size * (i + 1))) (sym (append_assoc front one rest) ∙ ap (λ z. z ++ rest) more) ∙ take_at (bytes_of (take (i + 1) cs)) rest _ long

module _ (cs : List Record) where
  count_is : count_of (bytes_of cs) ≡ length cs
  count_is = omega (arith, bytes_long cs)

  read_is : (i : ℕ) → i < length cs → connection_read (bytes_of cs) (0 + 3 * i) ≡ connection_of (get_or cs i none)
  read_is i l = ap (connection_read (bytes_of cs)) (zero-add (3 * i)) ∙ read_at (told_by cs) i (connection_of none) (omega (arith, length-map cs connection_of)) ∙ get_or-map connection_of cs i none

  -- the file is the same
  pub file_is : (k : ℕ) → file_of p1 (bytes_of cs) k ≡ editor_file cs k
  file_is k = ap (λ z. encode (job_of_part p1 z k)) (connections_told (told_by cs))

  -- a rule that is kept over the bytes is kept by the record, and back
  kept-to : (n i : ℕ) → ConnectionKept (bytes_of cs) n 0 (count_of (bytes_of cs)) i → i < length cs → ConnectionRule n (connection_of (get_or cs i none))
  kept-to n i g l = subst (ConnectionRule n) (read_is i l) (g (omega (arith, count_is)))

  kept_from : (n i : ℕ) → (i < length cs → ConnectionRule n (connection_of (get_or cs i none))) → ConnectionKept (bytes_of cs) n 0 (count_of (bytes_of cs)) i
  kept_from n i g l = let m : i < length cs = omega (arith, count_is) in subst (ConnectionRule n) (sym (read_is i m)) (g m)

  takes-to : (n t k : ℕ) → Takes n t (length (bytes_of cs)) k → Limits n t (length cs) k
  takes-to n t k g = subst (λ m. Limits n t m k) count_is g.limits

  takes_from : (n t k : ℕ) → Limits n t (length cs) k → Takes n t (length (bytes_of cs)) k
  takes_from n t k g = record { whole = omega (arith, bytes_long cs); limits = subst (λ m. Limits n t m k) (sym count_is) g }

  module _ (k : ℕ) where
    -- the same rows hold
    pub rows_to : (x q : ℕ) → part_rows p1 (bytes_of cs) k x q → editor_rows cs k x q
    rows_to x q (inl g) = inl (g.0, ((λ h. g.1.0 (takes_from 30 8 k h)), g.1.1))
    rows_to x q (inr g) = inr (g.0, record { index = g.1.index; counted = g.1.counted; broken = λ h. g.1.broken (kept_from 30 g.1.index h); kept = λ i l. kept-to 30 i (g.1.kept i l) })

    pub rows_from : (x q : ℕ) → editor_rows cs k x q → part_rows p1 (bytes_of cs) k x q
    rows_from x q (inl g) = inl (g.0, ((λ h. g.1.0 (takes-to 30 8 k h)), g.1.1))
    rows_from x q (inr g) = inr (g.0, record { index = g.1.index; counted = g.1.counted; broken = λ h. g.1.broken (kept-to 30 g.1.index h); kept = λ i l. kept_from 30 i (g.1.kept i l) })

    pub as_records : (b : ℕ) (old new : List ℕ) (v : Result Verdict Refusal) → AsFile (part_rows p1 (bytes_of cs) k) (file_of p1 (bytes_of cs) k) b old v new → Edits cs k b old v new
    as_records b old new v (refuses r g e f) = refuses r (record { holds = rows_to (number_of r.reason) r.place g.holds; first = λ x q h. g.first x q (rows_from x q h) }) e f
    as_records b old new v (routes g h) = routes (λ x q i. g x q (rows_from x q i)) (subst (λ f. Routes f b old v new) (file_is k) h)

    pub too_many_lem : most_connections < length cs → Refuses (editor_rows cs k) 2 0
    unfolding before
    too_many_lem h = refuses_left (refuses_row 2 0 ((λ g. omega (arith, g.m_high)), refl)) (behind_row (omega arith))
