-- The cut theorem: of a reply that is not refused, each beginning is refused or gives the same answer. Assumes nothing.
use mathlib.Core.Path.{◌≡◌, refl, sym, ap, subst, ◌∙◌}
use mathlib.Core.Bool.{Bool, true, false, cond, ◌&&◌}
use mathlib.Core.List.{List, [], ◌∷◌, ◌++◌, map}
use mathlib.Core.Logic.{◌⊎◌, inl, inr}
use Prim.Native.Nat.{ℕ, zero, suc}
use native.Mathlib.Omega.{arith}
use lib.Dec.{eqb}
use lib.ListN.{take, drop, take-append-drop}
use borrow.Author.Tests.{eq-eqb}
use Rattle.facts.specs.Same.{same}
use Rattle.facts.proofs.Same.{same_true}
use Rattle.facts.proofs.Bools.{both, not-both, never}
use Rattle.dimacs.specs.Reply.{onto, split, kept, lines, every, Word, stop, lit, is_number, nought, is_literal, literal, unsigned, negative, decimal, Status, satisfiable, unsatisfiable, unknown, text, Line, bad, quiet, says, gives, status_word, status_line, value_line, tagged, line_of, statuses, literals, closed}
use Rattle.dimacs.specs.Decision.{first_bad, Parsed, Refused6, Unsat, Unsure, Sat, settle, bad_first, judged, answer_of, accepts}

-- a list and a longer one: they go along but for the last of the first
pub data Along {A : Type 0} (R : A → A → Type 0) : List A → List A → Type 0 where
  last : {x y : A} (ys : List A) → R x y → Along R (x ∷ []) (y ∷ ys)
  more : {xs ys : List A} (x : A) → Along R xs ys → Along R (x ∷ xs) (x ∷ ys)

-- the second is the first and something after it
abbrev pub Begins : List ℕ → List ℕ → Type 0
Begins l m = (u : List ℕ) × (m ≡ l ++ u)

pub map_along : {A B : Type 0} {R : A → A → Type 0} (S : B → B → Type 0) (f : A → B) → ((x y : A) → R x y → S (f x) (f y)) → {xs ys : List A} → Along R xs ys → Along S (map f xs) (map f ys)
map_along S f h (last {x = x} {y = y} ys r) = last (map f ys) (h x y r)
map_along S f h (more x a) = more (f x) (map_along S f h a)

onto_along : (b : ℕ) {ls ms : List (List ℕ)} → Along Begins ls ms → Along Begins (onto b ls) (onto b ms)
unfolding onto
onto_along b (last ys r) = last ys (r.0, ap (λ l. b ∷ l) r.1)
onto_along b (more x a) = more (b ∷ x) a

split_some : (s : ℕ) (t : List ℕ) → Along Begins ([] ∷ []) (split s t)
unfolding split onto
split_some s [] = last [] ([], refl)
split_some s (b ∷ t) = go (eqb b s) (split s t) (split_some s t)
  where
    go : (e : Bool) (ls : List (List ℕ)) → Along Begins ([] ∷ []) ls → Along Begins ([] ∷ []) (cond e ([] ∷ ls) (onto b ls))
    go true ls a = last ls ([], refl)
    go false [] a = last [] (b ∷ [], refl)
    go false (l ∷ ls) a = last ls (b ∷ l, refl)

-- the parts of a beginning go along with the parts of the whole
pub split_along : (s : ℕ) (p q : List ℕ) → Along Begins (split s p) (split s (p ++ q))
unfolding split
split_along s [] q = split_some s q
split_along s (b ∷ p) q = go (eqb b s) (split_along s p q)
  where
    go : (e : Bool) → Along Begins (split s p) (split s (p ++ q)) → Along Begins (cond e ([] ∷ split s p) (onto b (split s p))) (cond e ([] ∷ split s (p ++ q)) (onto b (split s (p ++ q))))
    go true a = more [] a
    go false a = onto_along b a

-- two lists of literals, the second at least as long: they go along, but the last of the first may be a number cut short
pub data Lits : List Word → List Word → Type 0 where
  none : (ys : List Word) → Lits [] ys
  last_lit : {x y : Word} (ys : List Word) → (x ≡ stop → y ≡ stop) → Lits (x ∷ []) (y ∷ ys)
  more_lits : {xs ys : List Word} (x : Word) → Lits xs ys → Lits (x ∷ xs) (x ∷ ys)

closed_stop : (xs : List Word) → closed (stop ∷ xs) ≡ true → xs ≡ []
unfolding closed
closed_stop [] h = refl
closed_stop (x ∷ xs) h = not-both h refl

-- a literal that closes is `0`
closed-one : (x : Word) → closed (x ∷ []) ≡ true → x ≡ stop
unfolding closed
closed-one stop h = refl
closed-one (lit l) h = not-both h refl

-- two closed lists that go along are one
closed_same : {xs ys : List Word} → Lits xs ys → closed xs ≡ true → closed ys ≡ true → xs ≡ ys
unfolding closed
closed_same (none ys) h k = not-both h refl
closed_same (last_lit {x = x} {y = y} ys f) h k =
    let ex = closed-one x h in
    let ey = f ex in
    let el = closed_stop ys (subst (λ z. closed (z ∷ ys) ≡ true) ey k) in
    cc
closed_same (more_lits {xs = xs} {ys = ys} stop a) h k =
    let e = closed_stop xs h in
    let f = closed_stop ys k in
    cc
closed_same (more_lits (lit l) a) h k = ap (λ z. lit l ∷ z) (closed_same a h k)

append_lits : (zs : List Word) {xs ys : List Word} → Lits xs ys → Lits (zs ++ xs) (zs ++ ys)
append_lits [] a = a
append_lits (z ∷ zs) a = more_lits z (append_lits zs a)

-- the second may be longer, and something may follow it
longer_lits : {xs ys : List Word} (zs : List Word) → Lits xs ys → Lits (xs ++ []) (ys ++ zs)
longer_lits zs (none ys) = none (ys ++ zs)
longer_lits zs (last_lit ys f) = last_lit (ys ++ zs) f
longer_lits zs (more_lits x a) = more_lits x (longer_lits zs a)

-- what a line becomes when it grows: a status stays, literals go along
pub data Grows : Line → Line → Type 0 where
  from_bad : (y : Line) → Grows bad y
  from_quiet : (y : Line) → Grows quiet y
  to_bad : (x : Line) → Grows x bad
  keeps : (s : Status) → Grows (says s) (says s)
  grown : {xs ys : List Word} → Lits xs ys → Grows (gives xs) (gives ys)

grows_cond : (b : Bool) {x x' y y' : Line} → Grows x x' → Grows y y' → Grows (cond b x y) (cond b x' y')
grows_cond true g h = g
grows_cond false g h = h

-- on either side alone
grows_left : (b : Bool) {x y z : Line} → Grows x z → Grows y z → Grows (cond b x y) z
grows_left true g h = g
grows_left false g h = h

-- l is where m starts
starts : List ℕ → List ℕ → Bool
starts [] m = true
starts (b ∷ l) [] = false
starts (b ∷ l) (c ∷ m) = eqb b c && starts l m

starts_append : (l u : List ℕ) → starts l (l ++ u) ≡ true
unfolding starts
starts_append [] u = refl
starts_append (b ∷ l) u = simp (eq-eqb b b refl) (starts_append l u)

apart : (s s' : Status) → starts (text s) (text s') ≡ true → s ≡ s'
unfolding starts text
apart satisfiable satisfiable h = refl
apart satisfiable unsatisfiable h = not-both h refl
apart satisfiable unknown h = not-both h refl
apart unsatisfiable satisfiable h = not-both h refl
apart unsatisfiable unsatisfiable h = refl
apart unsatisfiable unknown h = not-both h refl
apart unknown satisfiable h = not-both h refl
apart unknown unsatisfiable h = not-both h refl
apart unknown unknown h = refl

-- none of the three words begins another
status_word_lem : (s s' : Status) (w v : List ℕ) → Begins w v → w ≡ text s → v ≡ text s' → s ≡ s'
status_word_lem s s' w v b e f =
    apart s s' (subst (λ z. starts z (text s') ≡ true) e (subst (λ z. starts w z ≡ true) (sym b.1 ∙ f) (starts_append w b.0)))

-- a word is a status or none
pub data StatusWord (w : List ℕ) : Line → Type 0 where
  no_status : StatusWord w bad
  a_status : (s : Status) → w ≡ text s → StatusWord w (says s)

word-cond : (w : List ℕ) (b : Bool) (s : Status) (y : Line) → (b ≡ true → w ≡ text s) → StatusWord w y → StatusWord w (cond b (says s) y)
word-cond w true s y f g = a_status s (f refl)
word-cond w false s y f g = g

pub status_word_view : (w : List ℕ) → StatusWord w (status_word w)
unfolding status_word
status_word_view w =
    word-cond w _ _ _ (same_true w _) (word-cond w _ _ _ (same_true w _) (word-cond w _ _ _ (same_true w _) no_status))

word_grows : {w v : List ℕ} {x y : Line} → Begins w v → StatusWord w x → StatusWord v y → Grows x y
word_grows {y = y} b no_status g = from_bad y
word_grows b (a_status s e) no_status = to_bad (says s)
word_grows {w} {v} b (a_status s e) (a_status s' f) = subst (λ z. Grows (says s) (says z)) (status_word_lem s s' w v b e f) (keeps s)

status_grows : {ws vs : List (List ℕ)} → Along Begins ws vs → Grows (status_line ws) (status_line vs)
unfolding status_line
status_grows (last {x = w} {y = v} [] r) = word_grows r (status_word_view w) (status_word_view v)
status_grows (last {x = w} {y = v} (y ∷ ys) r) = to_bad (status_word w)
status_grows (more x (last {y = y} ys r)) = from_bad (status_line (x ∷ y ∷ ys))
status_grows (more x (more {ys = ys} y a)) = from_bad (status_line (x ∷ y ∷ ys))

-- what is `0` grows into no other literal
nought_grows : (u : List ℕ) → is_literal (48 ∷ u) ≡ true → literal (48 ∷ u) ≡ stop
unfolding is_literal literal same unsigned is_number
nought_grows [] h = refl
nought_grows (b ∷ u) h = not-both h refl

literal_stop : (w : List ℕ) → literal w ≡ stop → w ≡ nought
unfolding literal
literal_stop w = go (same w nought) refl
  where
    go : (b : Bool) → same w nought ≡ b → cond b stop (lit (record { variable = decimal 0 (unsigned w); negated = negative w })) ≡ stop → w ≡ nought
    go true e h = same_true w nought e
    go false e h = never cc

literal_grows : (w v : List ℕ) → Begins w v → is_literal v ≡ true → literal w ≡ stop → literal v ≡ stop
literal_grows w v b h e =
    let i : v ≡ 48 ∷ b.0 = b.1 ∙ ap (λ z. z ++ b.0) (literal_stop w e) in
    subst (λ z. literal z ≡ stop) (sym i) (nought_grows b.0 (subst (λ z. is_literal z ≡ true) i h))

literals_grow : {ws vs : List (List ℕ)} → Along Begins ws vs → every is_literal vs ≡ true → Lits (map literal ws) (map literal vs)
unfolding every
literals_grow (last {x = w} {y = v} ys r) h = last_lit (map literal ys) (literal_grows w v r (both (is_literal v) _ h).0)
literals_grow (more x a) h = more_lits (literal x) (literals_grow a (both (is_literal x) _ h).1)

grown_cond : (a b : Bool) {xs ys : List Word} → (b ≡ true → Lits xs ys) → Grows (cond a (gives xs) bad) (cond b (gives ys) bad)
grown_cond true true f = grown (f refl)
grown_cond true false {xs = xs} f = to_bad (gives xs)
grown_cond false true {ys = ys} f = from_bad (gives ys)
grown_cond false false f = from_bad bad

value_grows : {ws vs : List (List ℕ)} → Along Begins ws vs → Grows (value_line ws) (value_line vs)
unfolding value_line
value_grows (last {x = w} {y = v} ys r) = grown_cond (every is_literal (w ∷ [])) (every is_literal (v ∷ ys)) (literals_grow (last {x = w} {y = v} ys r))
value_grows (more {xs = xs} {ys = ys} x a) = grown_cond (every is_literal (x ∷ xs)) (every is_literal (x ∷ ys)) (literals_grow (more x a))

tag_grows : {ws vs : List (List ℕ)} → Along Begins ws vs → Grows (tagged ws) (tagged vs)
unfolding tagged status_line value_line
tag_grows (last {x = w} {y = v} ys r) =
    grows_left (same w (99 ∷ [])) (from_quiet _) (grows_left (same w (115 ∷ [])) (from_bad _) (grows_left (same w (118 ∷ [])) (from_bad _) (from_bad _)))
tag_grows (more x a) =
    grows_cond (same x (99 ∷ [])) (from_quiet quiet) (grows_cond (same x (115 ∷ [])) (status_grows a) (grows_cond (same x (118 ∷ [])) (value_grows a) (from_bad bad)))

append_grows : (l u : List ℕ) → Grows (line_of l) (line_of (l ++ u))
unfolding line_of
append_grows [] u = from_quiet _
append_grows (b ∷ l) u = tag_grows (split_along 32 (b ∷ l) u)

-- a line that grows
pub line_grows : (l m : List ℕ) → Begins l m → Grows (line_of l) (line_of m)
line_grows l m r = subst (λ z. Grows (line_of l) (line_of z)) (sym r.1) (append_grows l r.0)

-- the first list is a beginning of the second
data First {A : Type 0} : List A → List A → Type 0 where
  nothing : (ys : List A) → First [] ys
  and_then : {xs ys : List A} (x : A) → First xs ys → First (x ∷ xs) (x ∷ ys)

-- what a beginning and the whole come to: the `s` lines and the literals
record Comes (ks ms : List Line) : Type 0 where
  said : First (statuses ks) (statuses ms)
  given : Lits (literals ks) (literals ms)

-- the lines of a beginning go along with those of the whole, and none is bad
comes : {ks ms : List Line} → Along Grows ks ms → (i j : ℕ) → first_bad (suc i) ks ≡ 0 → first_bad (suc j) ms ≡ 0 → Comes ks ms
unfolding first_bad statuses literals
comes (last ms (from_bad y)) i j h k = absurd (omega arith)
comes (last ms (from_quiet y)) i j h k = record { said = nothing _; given = none _ }
comes (last ms (to_bad x)) i j h k = absurd (omega arith)
comes (last ms (keeps s)) i j h k = record { said = and_then s (nothing _); given = none _ }
comes (last ms (grown g)) i j h k = record { said = nothing _; given = longer_lits (literals ms) g }
comes (more bad a) i j h k = absurd (omega arith)
comes (more quiet a) i j h k = let c = comes a (suc i) (suc j) h k in record { said = c.said; given = c.given }
comes (more (says s) a) i j h k = let c = comes a (suc i) (suc j) h k in record { said = and_then s c.said; given = c.given }
comes (more (gives xs) a) i j h k = let c = comes a (suc i) (suc j) h k in record { said = c.said; given = append_lits xs c.given }

sat_says : (xs : List Word) → accepts (settle (satisfiable ∷ []) xs) ≡ true → closed xs ≡ true
unfolding settle accepts
sat_says xs = go (closed xs)
  where
    go : (b : Bool) → accepts (cond b (Sat xs) (Refused6 0)) ≡ true → b ≡ true
    go true h = refl
    go false h = not-both h refl

unsat_says : (xs : List Word) → accepts (settle (unsatisfiable ∷ []) xs) ≡ true → xs ≡ []
unfolding settle accepts
unsat_says [] h = refl
unsat_says (x ∷ xs) h = not-both h refl

unsure_says : (xs : List Word) → accepts (settle (unknown ∷ []) xs) ≡ true → xs ≡ []
unfolding settle accepts
unsure_says [] h = refl
unsure_says (x ∷ xs) h = not-both h refl

-- the rules on `s`, `v` and `0`, of a beginning and of the whole
settle-same : {ss ss' : List Status} {xs ys : List Word} → First ss ss' → Lits xs ys → accepts (settle ss xs) ≡ true → accepts (settle ss' ys) ≡ true → settle ss xs ≡ settle ss' ys
unfolding settle accepts
settle-same (nothing ys) g h k = not-both h refl
settle-same {xs = xs} {ys = ys} (and_then satisfiable (nothing [])) g h k = ap (settle (satisfiable ∷ [])) (closed_same g (sat_says xs h) (sat_says ys k))
settle-same {xs = xs} {ys = ys} (and_then unsatisfiable (nothing [])) g h k = ap (settle (unsatisfiable ∷ [])) (unsat_says xs h ∙ sym (unsat_says ys k))
settle-same {xs = xs} {ys = ys} (and_then unknown (nothing [])) g h k = ap (settle (unknown ∷ [])) (unsure_says xs h ∙ sym (unsure_says ys k))
settle-same (and_then satisfiable (nothing (y ∷ ys))) g h k = not-both k refl
settle-same (and_then unsatisfiable (nothing (y ∷ ys))) g h k = not-both k refl
settle-same (and_then unknown (nothing (y ∷ ys))) g h k = not-both k refl
settle-same (and_then x (and_then y f)) g h k = refl

bad_first_says : (n : ℕ) (a : Parsed) → accepts (bad_first n a) ≡ true → (n ≡ 0) × (accepts a ≡ true) × (bad_first n a ≡ a)
unfolding bad_first accepts
bad_first_says zero a h = (refl, h, refl)
bad_first_says (suc n) a h = not-both h refl

judged-same : {ks ms : List Line} → Along Grows ks ms → accepts (judged ks) ≡ true → accepts (judged ms) ≡ true → judged ks ≡ judged ms
unfolding judged
judged-same {ks} {ms} a h k =
    let f = bad_first_says (first_bad 1 ks) (settle (statuses ks) (literals ks)) h in
    let g = bad_first_says (first_bad 1 ms) (settle (statuses ms) (literals ms)) k in
    let c = comes a 0 0 f.0 g.0 in
    f.2 ∙ settle-same c.said c.given f.1 g.1 ∙ sym g.2

-- lines that decide alike
record Alike (i : ℕ) (ks ms : List Line) : Type 0 where
  bads : first_bad i ks ≡ first_bad i ms
  said : statuses ks ≡ statuses ms
  given : literals ks ≡ literals ms

-- an empty rest is no line, and as one it would change nothing
kept_alike : (i : ℕ) (ls : List (List ℕ)) → Alike i (map line_of (kept ls)) (map line_of ls)
unfolding first_bad statuses literals kept line_of
kept_alike i [] = record { bads = refl; said = refl; given = refl }
kept_alike i ([] ∷ []) = record { bads = refl; said = refl; given = refl }
kept_alike i ((b ∷ l) ∷ []) = record { bads = refl; said = refl; given = refl }
kept_alike i (l ∷ m ∷ ls) = go (line_of l) (kept_alike (suc i) (m ∷ ls))
  where
    go : (k : Line) {ks ms : List Line} → Alike (suc i) ks ms → Alike i (k ∷ ks) (k ∷ ms)
    go bad h = record { bads = refl; said = h.said; given = h.given }
    go quiet h = record { bads = h.bads; said = h.said; given = h.given }
    go (says s) h = record { bads = h.bads; said = ap (λ z. s ∷ z) h.said; given = h.given }
    go (gives xs) h = record { bads = h.bads; said = h.said; given = ap (λ z. xs ++ z) h.given }

pub answer_split : (t : List ℕ) → answer_of t ≡ judged (map line_of (split 10 t))
unfolding answer_of judged lines
answer_split t = let k = kept_alike 1 (split 10 t) in (λ i. bad_first (k.bads i) (settle (k.said i) (k.given i)))

-- a text and the text with something after it, both not refused: one answer
answer_same : (p q : List ℕ) → accepts (answer_of p) ≡ true → accepts (answer_of (p ++ q)) ≡ true → answer_of p ≡ answer_of (p ++ q)
answer_same p q h k =
    let e = answer_split p in
    let f = answer_split (p ++ q) in
    e ∙ judged-same (map_along Grows line_of line_grows (split_along 10 p q)) (subst (λ z. accepts z ≡ true) e h) (subst (λ z. accepts z ≡ true) f k) ∙ sym f

-- refused by row 6
abbrev pub Refuses : Parsed → Type 0
Refuses a = (n : ℕ) × (a ≡ Refused6 n)

pub refuses_or : (a : Parsed) → Refuses a ⊎ (accepts a ≡ true)
unfolding accepts
refuses_or (Refused6 n) = inl (n, refl)
refuses_or (Sat xs) = inr refl
refuses_or Unsat = inr refl
refuses_or Unsure = inr refl

-- THE CUT THEOREM: of a text that is not refused, the first n bytes are refused or give the same answer
pub cut : (t : List ℕ) (n : ℕ) (a : Parsed) → answer_of t ≡ a → accepts a ≡ true → Refuses (answer_of (take n t)) ⊎ (answer_of (take n t) ≡ a)
cut t n a e h = go (refuses_or (answer_of (take n t)))
  where
    whole : take n t ++ drop n t ≡ t
    whole = take-append-drop n t

    go : Refuses (answer_of (take n t)) ⊎ (accepts (answer_of (take n t)) ≡ true) → Refuses (answer_of (take n t)) ⊎ (answer_of (take n t) ≡ a)
    go (inl r) = inl r
    go (inr k) = inr (answer_same (take n t) (drop n t) k (rw whole (rw e h)) ∙ rw whole e)

-- the empty reply
pub empty_refused : answer_of [] ≡ Refused6 0
unfolding answer_of judged lines split kept first_bad statuses literals settle bad_first
empty_refused = refl
