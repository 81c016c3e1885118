-- The text of a clause, read back by the grammar of a reply, is the clause: each literal's text is a literal without a blank, so the words of
-- the line are the literals' texts and `0`. So different clauses have different texts. Assumes nothing.
use mathlib.Core.Path.{◌≡◌, refl, sym, ap, subst, ◌∙◌}
use mathlib.Core.Bool.{Bool, true, false, cond, ◌&&◌}
use mathlib.Core.List.{List, [], ◌∷◌, ◌++◌, map, append_assoc}
use Prim.Native.Nat.{ℕ, zero, suc, ◌+◌, ◌-◌, ◌*◌, ◌/◌, ◌%◌, ◌≤◌, ◌<◌}
use native.Mathlib.Omega.{arith}
use lib.Dec.{eqb, leb, ltb}
use lib.ListN.{length, length-append}
use borrow.Author.Tests.{le-leb, leb-true, ltb-true, ltb-false}
use Rattle.facts.proofs.Bools.{and_both, both, or-both}
use Rattle.text.specs.Text.{digits}
use Rattle.text.proofs.Writing.{digits-small}
use Rattle.dimacs.specs.Clause.{Literal, Clause, within, within_all}
use Rattle.dimacs.specs.Reply.{split, onto, kept, lines, every, is_digit, decimal, stop, lit, nought, is_literal, literal}
use Rattle.dimacs.specs.Forms.{IsLiteral, a_nought, a_plain, a_negated}
use Rattle.dimacs.specs.Model.{before_nought}
use Rattle.dimacs.specs.Lines.{three_digits, literal_text, literals_text, clause_line, clause_text, clauses_text, pcnf, header_text, clause_in, clauses_in}
use Rattle.dimacs.specs.ReadBack.{header_line, ten_digits, ReadsBack}
use Rattle.dimacs.proofs.Words.{has, has-append, digits-free, literal_is, literal-free, split_end, split_at, split-cons}
use Rattle.dimacs.proofs.Meaning.{before_nought_is}

-- the numbers of at most k + 1 digits are below this
below : ℕ → ℕ
below zero = 10
below (suc k) = below k * 10

decimal_more : (n : ℕ) (w : List ℕ) (b : ℕ) → decimal n (w ++ (b ∷ [])) ≡ decimal n w * 10 + (b - 48)
unfolding decimal
decimal_more n [] b = refl
decimal_more n (c ∷ w) b = decimal_more (n * 10 + (c - 48)) w b

every_more : (w : List ℕ) (b : ℕ) → every is_digit w ≡ true → is_digit b ≡ true → every is_digit (w ++ (b ∷ [])) ≡ true
unfolding every
every_more [] b h k = and_both k refl
every_more (c ∷ w) b h k = let g = both (is_digit c) (every is_digit w) h in and_both g.0 (every_more w b g.1 k)

last-is_digit : (n : ℕ) → is_digit (48 + n % 10) ≡ true
last-is_digit n = and_both (le-leb 48 (48 + n % 10) (omega arith)) (le-leb (48 + n % 10) 57 (omega arith))

-- a number from 1 on, in decimal: its first digit is not 0, at most k follow, and its value is the number
record Number (k n : ℕ) (l : List ℕ) : Type 0 where
  head : ℕ
  tail : List ℕ
  is : l ≡ head ∷ tail
  leads : (leb 49 head && leb head 57) ≡ true
  few : length tail ≤ k
  digits_all : every is_digit tail ≡ true
  value : decimal 0 l ≡ n

one_digit : (k n : ℕ) → 1 ≤ n → n < 10 → Number k n ((48 + n % 10) ∷ [])
unfolding every decimal
one_digit k n a b =
    record { head = 48 + n % 10; tail = []; is = refl; leads = and_both (le-leb 49 (48 + n % 10) (omega arith)) (le-leb (48 + n % 10) 57 (omega arith)); few = omega arith; digits_all = refl; value = omega arith }

digits_number : (k n : ℕ) → 1 ≤ n → n < below k → Number k n (digits k n)
unfolding digits below
digits_number zero n a b = one_digit zero n a b
digits_number (suc k) n a b = go (ltb n 10) refl (digits_number k (n / 10))
  where
    go : (x : Bool) → ltb n 10 ≡ x → (1 ≤ n / 10 → n / 10 < below k → Number k (n / 10) (digits k (n / 10))) → Number (suc k) n (cond x [] (digits k (n / 10)) ++ ((48 + n % 10) ∷ []))
    go true e r = one_digit (suc k) n a (ltb-true n 10 e)
    go false e r =
        let g = ltb-false n 10 e in
        let f = r (omega arith) (omega arith) in
        record {
          head = f.head;
          tail = f.tail ++ ((48 + n % 10) ∷ []);
          is = ap (λ z. z ++ ((48 + n % 10) ∷ [])) f.is;
          leads = f.leads;
          few = rw (length-append f.tail ((48 + n % 10) ∷ [])) (let h = f.few in omega arith);
          digits_all = every_more f.tail (48 + n % 10) f.digits_all (last-is_digit n);
          value = decimal_more 0 (digits k (n / 10)) (48 + n % 10) ∙ (let h = f.value in omega arith);
        }

-- a literal's text is that literal
literal-text : (l : Literal) → 1 ≤ l.variable → l.variable ≤ three_digits → IsLiteral (literal_text l) (lit l)
unfolding literal_text below
literal-text l a b = go l.negated (digits_number 2 l.variable a (omega arith))
  where
    go : (n : Bool) → Number 2 l.variable (digits 2 l.variable) → IsLiteral (cond n (45 ∷ []) [] ++ digits 2 l.variable) (lit (record { variable = l.variable; negated = n }))
    go true f =
        subst (λ z. IsLiteral (45 ∷ z) (lit (record { variable = l.variable; negated = true }))) (sym f.is)
        (subst (λ v. IsLiteral (45 ∷ f.head ∷ f.tail) (lit (record { variable = v; negated = true }))) (ap (decimal 0) (sym f.is) ∙ f.value)
        (a_negated f.head f.tail f.leads f.few f.digits_all))
    go false f =
        subst (λ z. IsLiteral z (lit (record { variable = l.variable; negated = false }))) (sym f.is)
        (subst (λ v. IsLiteral (f.head ∷ f.tail) (lit (record { variable = v; negated = false }))) (ap (decimal 0) (sym f.is) ∙ f.value)
        (a_plain f.head f.tail f.leads f.few f.digits_all))

-- a clause whose variables have at most three digits
abbrev pub Short : Clause → Type 0
Short c = within three_digits c ≡ true

first_short : (l : Literal) (c : Clause) → Short (l ∷ c) → (1 ≤ l.variable) × (l.variable ≤ three_digits) × Short c
unfolding within
first_short l c h =
    let g = both (leb 1 l.variable && leb l.variable three_digits) (within three_digits c) h in
    let k = both (leb 1 l.variable) (leb l.variable three_digits) g.0 in
    (leb-true 1 l.variable k.0, leb-true l.variable three_digits k.1, g.1)

-- the words of a clause line are the texts of its literals, and `0`
clause_words : (c : Clause) → Short c → split 32 (clause_line c) ≡ map literal_text c ++ (nought ∷ [])
unfolding clause_line literals_text split onto
clause_words [] h = refl
clause_words (l ∷ c) h =
    let s = first_short l c h in
    ap (split 32) (append_assoc (literal_text l ++ (32 ∷ [])) (literals_text c) (48 ∷ []) ∙ append_assoc (literal_text l) (32 ∷ []) (literals_text c ++ (48 ∷ [])))
    ∙ split_at 32 (literal_text l) (literals_text c ++ (48 ∷ [])) (literal-free 32 (omega arith) (literal_text l) (literal_is (literal-text l s.0 s.1)).0)
    ∙ ap (λ z. literal_text l ∷ z) (clause_words c s.2)

texts_read : (c : Clause) → Short c → (map literal (map literal_text c ++ (nought ∷ [])) ≡ map lit c ++ (stop ∷ [])) × (every is_literal (map literal_text c ++ (nought ∷ [])) ≡ true)
unfolding every
texts_read [] h = let z = literal_is a_nought in (ap (λ w. w ∷ []) z.1, and_both z.0 refl)
texts_read (l ∷ c) h =
    let s = first_short l c h in
    let z = literal_is (literal-text l s.0 s.1) in
    let r = texts_read c s.2 in
    ((λ i. z.1 i ∷ r.0 i), and_both z.0 r.1)

-- A CLAUSE LINE READ BACK: its words are literals, and they are those of the clause and then `0`
pub clause_reads : (c : Clause) → Short c → (map literal (split 32 (clause_line c)) ≡ map lit c ++ (stop ∷ [])) × (every is_literal (split 32 (clause_line c)) ≡ true)
clause_reads c h = let e = clause_words c h in let r = texts_read c h in (ap (map literal) e ∙ r.0, ap (every is_literal) e ∙ r.1)

clause_in_lem : (c : Clause) → Short c → clause_in (clause_line c) ≡ c
unfolding clause_in
clause_in_lem c h = ap before_nought (clause_reads c h).0 ∙ before_nought_is c

-- a clause line has no LF
line-free : (c : Clause) → Short c → has 10 (clause_line c) ≡ false
unfolding clause_line literals_text has
line-free [] h = refl
line-free (l ∷ c) h =
    let s = first_short l c h in
    ap (has 10) (append_assoc (literal_text l ++ (32 ∷ [])) (literals_text c) (48 ∷ []))
    ∙ has-append 10 (literal_text l ++ (32 ∷ [])) (literals_text c ++ (48 ∷ [])) (has-append 10 (literal_text l) (32 ∷ []) (literal-free 10 (omega arith) (literal_text l) (literal_is (literal-text l s.0 s.1)).0) refl) (line-free c s.2)

kept_more : (l w : List ℕ) (ws : List (List ℕ)) → kept (l ∷ w ∷ ws) ≡ l ∷ kept (w ∷ ws)
unfolding kept
kept_more [] w ws = refl
kept_more (b ∷ l) w ws = refl

text-line : (c : Clause) (r : List ℕ) → clause_text c ++ r ≡ clause_line c ++ 10 ∷ r
unfolding clause_text clause_line
text-line c r = append_assoc (literals_text c) (48 ∷ 10 ∷ []) r ∙ sym (append_assoc (literals_text c) (48 ∷ []) (10 ∷ r))

-- a line and what comes after it
lines_cons : (l r : List ℕ) → has 10 l ≡ false → lines (l ++ 10 ∷ r) ≡ l ∷ lines r
unfolding lines kept
lines_cons l r h = ap kept (split_at 10 l r h) ∙ go (split-cons 10 r)
  where
    go : (w : List ℕ) × (ws : List (List ℕ)) × (split 10 r ≡ w ∷ ws) → kept (l ∷ split 10 r) ≡ l ∷ kept (split 10 r)
    go (w, ws, e) = ap (λ z. kept (l ∷ z)) e ∙ kept_more l w ws ∙ ap (λ z. l ∷ kept z) (sym e)

-- THE LINES READ BACK: the clauses in the text of a clause list are that list
pub clauses-read : (cs : List Clause) → within_all three_digits cs ≡ true → clauses_in (clauses_text cs) ≡ cs
unfolding clauses_in clauses_text clause_text clause_line within_all lines split kept
clauses-read [] h = refl
clauses-read (c ∷ cs) h =
    let g = both (within three_digits c) (within_all three_digits cs) h in
    ap (λ t. map clause_in (lines t)) (text-line c (clauses_text cs))
    ∙ ap (map clause_in) (lines_cons (clause_line c) (clauses_text cs) (line-free c g.0))
    ∙ (λ i. clause_in_lem c g.0 i ∷ clauses-read cs g.1 i)

-- different clauses have different texts
pub clause_text-one : (c d : Clause) → Short c → Short d → clause_text c ≡ clause_text d → c ≡ d
unfolding clauses_text within_all
clause_text-one c d h k e =
    let a = clauses-read (c ∷ []) (and_both h refl) in
    let b = clauses-read (d ∷ []) (and_both k refl) in
    let f : c ∷ [] ≡ d ∷ [] = sym a ∙ ap (λ t. clauses_in (t ++ [])) e ∙ b in
    cc

-- every byte of a decimal number is a digit
digits-digits : (k n : ℕ) → every is_digit (digits k n) ≡ true
unfolding digits every
digits-digits zero n = and_both (last-is_digit n) refl
digits-digits (suc k) n = go (ltb n 10) (digits-digits k (n / 10))
  where
    go : (x : Bool) → every is_digit (digits k (n / 10)) ≡ true → every is_digit (cond x [] (digits k (n / 10)) ++ ((48 + n % 10) ∷ [])) ≡ true
    go true h = and_both (last-is_digit n) refl
    go false h = every_more (digits k (n / 10)) (48 + n % 10) h (last-is_digit n)

-- and its value is the number
decimal-digits : (k n : ℕ) → n < below k → decimal 0 (digits k n) ≡ n
unfolding decimal
decimal-digits k zero h = ap (decimal 0) (digits-small k 0 (omega arith)) ∙ (let e : 0 * 10 + (48 + 0 % 10 - 48) ≡ 0 = omega arith in e)
decimal-digits k (suc n) h = (digits_number k (suc n) (omega arith) h).value

digits-has : (s : ℕ) → s < 45 → (k n : ℕ) → has s (digits k n) ≡ false
digits-has s h k n = digits-free s h (digits k n) (digits-digits k n)

cons-free : (s b : ℕ) (w : List ℕ) → eqb b s ≡ false → has s w ≡ false → has s (b ∷ w) ≡ false
unfolding has
cons-free s b w h k = or-both h k

pcnf-free : has 10 pcnf ≡ false
unfolding has
pcnf-free = refl

header_free : (n c : ℕ) → has 10 (header_line n c) ≡ false
unfolding header_line
header_free n c = has-append 10 pcnf (digits 9 n ++ (32 ∷ digits 9 c)) pcnf-free (has-append 10 (digits 9 n) (32 ∷ digits 9 c) (digits-has 10 (omega arith) 9 n) (cons-free 10 32 (digits 9 c) refl (digits-has 10 (omega arith) 9 c)))

pcnf-split : (r : List ℕ) (w : List ℕ) (ws : List (List ℕ)) → split 32 r ≡ w ∷ ws → split 32 (pcnf ++ r) ≡ (112 ∷ []) ∷ (99 ∷ 110 ∷ 102 ∷ []) ∷ w ∷ ws
unfolding split onto
pcnf-split r w ws e = ap (λ z. (112 ∷ []) ∷ (99 ∷ 110 ∷ 102 ∷ []) ∷ z) e

header_text_lem : (n c : ℕ) → header_text n c ≡ header_line n c ++ (10 ∷ [])
unfolding header_text header_line
header_text_lem n c = ap (λ z. z ++ (10 ∷ [])) (append_assoc (pcnf ++ digits 9 n) (32 ∷ []) (digits 9 c) ∙ append_assoc pcnf (digits 9 n) (32 ∷ digits 9 c))

header_words : (n c : ℕ) → split 32 (header_line n c) ≡ (112 ∷ []) ∷ (99 ∷ 110 ∷ 102 ∷ []) ∷ digits 9 n ∷ digits 9 c ∷ []
unfolding header_line
header_words n c =
    pcnf-split (digits 9 n ++ (32 ∷ digits 9 c)) (digits 9 n) (digits 9 c ∷ [])
    (split_at 32 (digits 9 n) (digits 9 c) (digits-has 32 (omega arith) 9 n) ∙ ap (λ z. digits 9 n ∷ z) (split_end 32 (digits 9 c) (digits-has 32 (omega arith) 9 c)))

-- THE WHOLE TEXT READ BACK
pub reads_back : (n c : ℕ) (cs : List Clause) → n < ten_digits → c < ten_digits → within_all three_digits cs ≡ true → ReadsBack n c cs
unfolding below
reads_back n c cs h k w =
    record {
      first_line = ap (λ z. lines (z ++ clauses_text cs)) (header_text_lem n c) ∙ ap lines (append_assoc (header_line n c) (10 ∷ []) (clauses_text cs)) ∙ lines_cons (header_line n c) (clauses_text cs) (header_free n c);
      header_is = header_words n c;
      variables_are = decimal-digits 9 n h;
      count_is = decimal-digits 9 c k;
      clauses_are = clauses-read cs w;
    }
