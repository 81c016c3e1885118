-- Codes spelled as bits, and read back. Assumes nothing.
use mathlib.Core.Path.{◌≡◌, refl, sym, ap, ◌∙◌}
use mathlib.Core.Bool.{Bool, false}
use mathlib.Core.List.{List, [], ◌∷◌, ◌++◌}
use Prim.Native.Nat.{ℕ, zero, suc, ◌+◌, ◌*◌, ◌-◌, ◌/◌, ◌%◌, ◌^◌, ◌≤◌, ◌<◌}
use native.Mathlib.Omega.{arith}
use native.Mathlib.Nat.{pow-succ', zero-mul, suc-mul}
use lib.ListN.{length, get_or, take, drop, length-append, length-drop, take-append-drop, get_or-append}
use lib.Seq.{take-suc, get_or_at, drop_at, drop-drop, get_or-drop}
use Rattle.facts.specs.Odd.{odd, bit_of}
use Rattle.facts.proofs.Odd.{bit_odd, odd_bit}
use Rattle.dimacs.specs.Clause.{value_in}
use Rattle.clauses.specs.Clauses.{bits, spell}
use Rattle.clauses.specs.Reading.{number_in, codes_in}
use Rattle.clauses.proofs.Joins.{bit_le}
use Rattle.clauses.proofs.Bits.{code_at}

bits-length : (k c : ℕ) → length (bits k c) ≡ k
unfolding bits
bits-length zero c = refl
bits-length (suc k) c = length-append (bits k (c / 2)) (odd c ∷ []) ∙ (let ih = bits-length k (c / 2) in omega arith)

-- bits k of what k bits spell
bits-number : (k : ℕ) (l : List Bool) → k ≤ length l → bits k (number_in k l) ≡ take k l
unfolding bits number_in
bits-number zero l h = refl
bits-number (suc k) l h =
    let b = bit_le (get_or l k false) in
    let d : (number_in k l * 2 + bit_of (get_or l k false)) / 2 ≡ number_in k l = omega arith in
    let o : odd (number_in k l * 2 + bit_of (get_or l k false)) ≡ get_or l k false = odd_bit (number_in k l * 2 + bit_of (get_or l k false)) (get_or l k false) (omega arith) in
    (λ i. bits k (d i) ++ (o i ∷ [])) ∙ ap (λ x. x ++ (get_or l k false ∷ [])) (bits-number k l (omega arith)) ∙ sym (take-suc l k false (omega arith))

number_append : (k : ℕ) (x y : List Bool) → k ≤ length x → number_in k (x ++ y) ≡ number_in k x
unfolding number_in
number_append zero x y h = refl
number_append (suc k) x y h = λ i. number_append k x y (omega arith) i * 2 + bit_of (get_or-append x y false k (omega arith) i)

-- what the bits of c spell
number-bits : (k c : ℕ) → c < 2 ^ k → number_in k (bits k c) ≡ c
unfolding bits number_in
number-bits zero c h = omega arith
number-bits (suc k) c h =
    let p = pow-succ' 2 k in
    let n = bits-length k (c / 2) in
    let e : number_in k (bits k (c / 2) ++ (odd c ∷ [])) ≡ c / 2 = number_append k (bits k (c / 2)) (odd c ∷ []) (omega arith) ∙ number-bits k (c / 2) (omega arith) in
    let f : bit_of (get_or (bits k (c / 2) ++ (odd c ∷ [])) k false) ≡ c % 2 = ap bit_of (get_or_at (bits k (c / 2)) (odd c) [] false k n) ∙ bit_odd c in
    omega arith

pub spell-codes : (w m : ℕ) (a : List Bool) → length a ≡ m * w → spell w (codes_in w m a) ≡ a
unfolding spell codes_in
spell-codes w zero a h = nil a (h ∙ zero-mul w)
  where
    nil : (a : List Bool) → length a ≡ 0 → [] ≡ a
    nil [] h = refl
    nil (x ∷ a) h = absurd (omega arith)
spell-codes w (suc m) a h =
    let s = suc-mul m w in
    (λ i. bits-number w a (omega arith) i ++ spell-codes w m (drop w a) (length-drop w a ∙ omega arith) i) ∙ take-append-drop w a

pub codes-spell : (w : ℕ) (q : List ℕ) → ((i : ℕ) → i < length q → get_or q i 0 < 2 ^ w) → codes_in w (length q) (spell w q) ≡ q
unfolding spell codes_in
codes-spell w [] h = refl
codes-spell w (c ∷ q) h =
    let n = bits-length w c in
    let l : c < 2 ^ w = h 0 (omega arith) in
    λ i. (number_append w (bits w c) (spell w q) (omega arith) ∙ number-bits w c l) i
    ∷ (ap (codes_in w (length q)) (drop_at (bits w c) (spell w q) w n) ∙ codes-spell w q (λ j g. h (suc j) (omega arith))) i

pub codes-length : (w m : ℕ) (a : List Bool) → length (codes_in w m a) ≡ m
unfolding codes_in
codes-length w zero a = refl
codes-length w (suc m) a = ap suc (codes-length w m (drop w a))

pub spell-length : (w : ℕ) (q : List ℕ) → length (spell w q) ≡ length q * w
unfolding spell
spell-length w [] = sym (zero-mul w)
spell-length w (c ∷ q) = length-append (bits w c) (spell w q) ∙ (let a = bits-length w c in let b = spell-length w q in let s = suc-mul (length q) w in omega arith)

pub codes_at : (w m i : ℕ) (a : List Bool) → i < m → get_or (codes_in w m a) i 0 ≡ number_in w (drop (i * w) a)
unfolding codes_in
codes_at w zero i a h = absurd (omega arith)
codes_at w (suc m) zero a h = ap (λ k. number_in w (drop k a)) (sym (zero-mul w))
codes_at w (suc m) (suc i) a h =
    let s = suc-mul i w in
    let e : w + i * w ≡ suc i * w = omega arith in
    codes_at w m i (drop w a) (omega arith) ∙ ap (number_in w) (drop-drop (i * w) w a) ∙ ap (λ k. number_in w (drop k a)) e

-- the variables from s + 1 on spell what the list from s on spells
pub code_at-number : (a : List Bool) (s k : ℕ) → code_at (value_in a) (s + 1) k ≡ number_in k (drop s a)
unfolding code_at number_in value_in
code_at-number a s zero = refl
code_at-number a s (suc k) =
    let e : s + 1 + k - 1 ≡ s + k = omega arith in
    λ i. code_at-number a s k i * 2 + bit_of ((ap (λ n. get_or a n false) e ∙ sym (get_or-drop s a k false)) i)
