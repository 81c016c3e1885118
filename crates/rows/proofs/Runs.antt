-- The first and last number of the segments in a run. Assumes nothing.
use mathlib.Core.Path.{◌≡◌, refl, sym, ap, ◌∙◌}
use mathlib.Core.Bool.{Bool, true, false, ◌&&◌, cond}
use mathlib.Core.List.{List, [], ◌∷◌, ◌++◌, append-nil}
use Prim.Native.Nat.{ℕ, zero, suc, ◌+◌, ◌-◌, ◌≤◌, ◌<◌}
use native.Mathlib.Omega.{arith}
use native.Mathlib.Nat.{add-zero, add-suc}
use lib.Dec.{leb}
use lib.ListN.{length, get_or, length-append, get_or-append}
use lib.Seq.{get_or-append_seam}
use borrow.Author.Tests.{le-leb, lt-leb}
use Rattle.channel.specs.Channel.{Track, Connection, segments, numbers_to, occupied, occupied_by}
use Rattle.occupancy.specs.Runs.{Run}

-- a + 1, a + 2, … , a + n
unfoldable up_from : ℕ → ℕ → List ℕ
up_from a zero = []
up_from a (suc n) = up_from a n ++ (suc (a + n) ∷ [])

up-length : (a n : ℕ) → length (up_from a n) ≡ n
unfolding up_from
up-length a zero = refl
up-length a (suc n) = length-append (up_from a n) (suc (a + n) ∷ []) ∙ (let h = up-length a n in omega arith)

up_first : (a n : ℕ) → get_or (up_from a (suc n)) 0 0 ≡ suc a
unfolding up_from
up_first a zero = ap suc (add-zero a)
up_first a (suc n) = get_or-append (up_from a (suc n)) (suc (a + suc n) ∷ []) 0 0 (let h = up-length a (suc n) in omega arith) ∙ up_first a n

up-last : (a n : ℕ) → get_or (up_from a (suc n)) n 0 ≡ suc (a + n)
unfolding up_from
up-last a n = ap (λ (k : ℕ). get_or (up_from a n ++ (suc (a + n) ∷ [])) k 0) (sym (up-length a n)) ∙ get_or-append_seam (up_from a n) (suc (a + n)) [] 0

module _ (f : ℕ → Bool) (g a e : ℕ) (is : (k : ℕ) → k < g → f k ≡ (leb a k && leb k e)) (order : a ≤ e) (room : e < g) where
  off_before : (k : ℕ) → k < a → f k ≡ false
  off_before k h = is k (omega arith) ∙ ap (λ (b : Bool). b && leb k e) (lt-leb a k h)

  on_run : (k : ℕ) → a ≤ k → k ≤ e → f k ≡ true
  on_run k h l = is k (omega arith) ∙ (λ i. le-leb a k h i && le-leb k e l i)

  off_after : (k : ℕ) → k < g → e < k → f k ≡ false
  off_after k h l = is k h ∙ (λ i. le-leb a k (omega arith) i && lt-leb k e l i)

  before-run : (n : ℕ) → n ≤ a → numbers_to f n ≡ []
  unfolding numbers_to
  before-run zero h = refl
  before-run (suc n) h = λ i. before-run n (omega arith) i ++ cond (off_before n h i) (suc n ∷ []) []

  in_run : (n : ℕ) → a + n ≤ suc e → numbers_to f (a + n) ≡ up_from a n
  unfolding numbers_to up_from
  in_run zero h = ap (numbers_to f) (add-zero a) ∙ before-run a (omega arith)
  in_run (suc n) h = ap (numbers_to f) (add-suc a n) ∙ (λ i. in_run n (omega arith) i ++ cond (on_run (a + n) (omega arith) (omega arith) i) (suc (a + n) ∷ []) [])

  after_run : (n : ℕ) → suc e + n ≤ g → numbers_to f (suc e + n) ≡ numbers_to f (suc e)
  unfolding numbers_to
  after_run zero h = ap (numbers_to f) (add-zero (suc e))
  after_run (suc n) h = ap (numbers_to f) (add-suc (suc e) n) ∙ (λ i. after_run n (omega arith) i ++ cond (off_after (suc e + n) (omega arith) (omega arith) i) (suc (suc e + n) ∷ []) []) ∙ append-nil (numbers_to f (suc e))

  numbers_run : numbers_to f g ≡ up_from a (suc (e - a))
  numbers_run =
      let x : g ≡ suc e + (g - suc e) = omega arith in
      let y : suc e ≡ a + suc (e - a) = omega arith in
      ap (numbers_to f) x ∙ after_run (g - suc e) (omega arith) ∙ ap (numbers_to f) y ∙ in_run (suc (e - a)) (omega arith)

-- the segments in a run: the first number is one more than the first segment, and so is the last
module _ (t : Track) (c : Connection) (a e : ℕ) (r : Run t c a e) (order : a ≤ e) where
  run_numbers : occupied_by t c ≡ up_from a (suc (e - a))
  unfolding occupied_by
  run_numbers = numbers_run (occupied t c) (segments t) a e r.is order r.inside

  pub run-first : get_or (occupied_by t c) 0 0 ≡ a + 1
  run-first = ap (λ (l : List ℕ). get_or l 0 0) run_numbers ∙ up_first a (e - a) ∙ (omega arith)

  pub run-last : get_or (occupied_by t c) (length (occupied_by t c) - 1) 0 ≡ e + 1
  run-last =
      let n : length (occupied_by t c) - 1 ≡ e - a = let h = ap length run_numbers ∙ up-length a (suc (e - a)) in omega arith in
      (λ i. get_or (run_numbers i) (n i) 0) ∙ up-last a (e - a) ∙ (omega arith)
