-- No line is longer than `most_line`; so what is written stands in front, and the rest of the buffer stays. Assumes nothing.
use mathlib.Core.Path.{◌≡◌, refl}
use mathlib.Core.Logic.{◌⊎◌, inl, inr, ⊎_elim}
use mathlib.Core.Bool.{Bool, true, false, cond}
use mathlib.Core.List.{List, [], ◌∷◌, ◌++◌, Memᴰ}
use Prim.Native.Nat.{ℕ, zero, suc, ◌+◌, ◌*◌, ◌≤◌}
use native.Mathlib.Omega.{arith}
use lib.ListN.{length, get_or, drop, length-append}
use Rattle.text.specs.Text.{digits}
use Rattle.text.proofs.Writing.{front, digits-length}
use Rattle.dimacs.specs.Clause.{Literal, Clause}
use Rattle.dimacs.specs.Lines.{literal_text, literals_text, clause_text, pcnf, header_text}
use Rattle.channel.specs.Limits.{most_tracks}
use Rattle.channel.specs.Channel.{Job, T}
use Rattle.clauses.specs.Clauses.{Grid, grid_of, width_of, clauses_of}
use Rattle.clauses.proofs.Order.{clause_length}
use Rattle.places.proofs.Sizes.{few_bits}
use Rattle.lines.specs.Lined.{most_line, text_of, line_text}
use Rattle.lines.specs.Writes.{WrittenLine}

literal_short : (l : Literal) → length (literal_text l) ≤ 4
unfolding literal_text
literal_short l = go l.negated
  where
    go : (b : Bool) → length (cond b (45 ∷ []) [] ++ digits 2 l.variable) ≤ 4
    go true = let d = digits-length 2 l.variable in omega arith
    go false = let d = digits-length 2 l.variable in omega arith

literals_short : (c : Clause) → length (literals_text c) ≤ 5 * length c
unfolding literals_text
literals_short [] = omega arith
literals_short (l ∷ c) =
    let a = length-append (literal_text l ++ (32 ∷ [])) (literals_text c) in
    let b = length-append (literal_text l) (32 ∷ []) in
    let d = literal_short l in
    let ih = literals_short c in
    omega arith

clause_short : (c : Clause) → length (clause_text c) ≤ 5 * length c + 2
unfolding clause_text
clause_short c = let a = length-append (literals_text c) (48 ∷ 10 ∷ []) in let b = literals_short c in omega arith

header_short : (v c : ℕ) → length (header_text v c) ≤ 28
unfolding header_text
header_short v c =
    let a = length-append (pcnf ++ digits 9 v ++ (32 ∷ []) ++ digits 9 c) (10 ∷ []) in
    let b = length-append (pcnf ++ digits 9 v ++ (32 ∷ [])) (digits 9 c) in
    let d = length-append (pcnf ++ digits 9 v) (32 ∷ []) in
    let e = length-append pcnf (digits 9 v) in
    let f = digits-length 9 v in
    let g = digits-length 9 c in
    omega arith

-- an entry of a list, or nothing
entry : (cs : List Clause) (n : ℕ) → Memᴰ (get_or cs n []) cs ⊎ (length (get_or cs n []) ≡ 0)
entry [] n = inr refl
entry (c ∷ cs) zero = inl (mathlib.Core.List.Memᴰ.head refl)
entry (c ∷ cs) (suc n) = ⊎_elim (λ m. inl (mathlib.Core.List.Memᴰ.tail m)) (λ e. inr e) (entry cs n)

-- a line of at most `most_tracks` tracks
pub text_short : (g : Grid) → g.tracks ≤ most_tracks → (n : ℕ) → length (text_of g n) ≤ most_line
unfolding text_of
text_short g h zero = let a = header_short (g.connections * width_of g) (length (clauses_of g)) in omega arith
text_short g h (suc n) =
    let c = get_or (clauses_of g) n [] in
    let w = few_bits g.tracks (omega arith) in
    let a = clause_short c in
    ⊎_elim (λ (m : Memᴰ c (clauses_of g)). let b = clause_length g c m in omega arith) (λ (e : length c ≡ 0). omega arith) (entry (clauses_of g) n)

pub line_short : (j : Job) → T j ≤ most_tracks → (n : ℕ) → length (line_text j n) ≤ most_line
line_short j h n = text_short (grid_of j) h n

-- the line stands in front, its length is returned, and the rest stays
pub written_front : (f : List ℕ) (number : ℕ) (old new : List ℕ) (k : ℕ) (w : WrittenLine f number old new k) → (k ≡ length (line_text w.job number)) × (new ≡ line_text w.job number ++ drop (length (line_text w.job number)) old)
written_front f number old new k w =
    let l = line_short w.job w.of_file.valid.limits.t_high number in
    let r = w.room in
    (let e = w.wrote.next in omega arith, front (omega arith) w.wrote)
