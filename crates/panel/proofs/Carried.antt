-- A load byte that goes as the load goes, and the columns of an edit by who crosses them. Assumes nothing.
use mathlib.Core.Path.{◌≡◌, refl, sym, ap, ◌∙◌}
use mathlib.Core.Bool.{Bool, true, false, ◌&&◌, not, cond}
use mathlib.Core.List.{List}
use Prim.Native.Nat.{ℕ, ◌+◌, ◌<◌, max}
use native.Mathlib.Omega.{arith}
use lib.Dec.{ltb}
use borrow.Author.Tests.{lt-ltb, le-ltb}
use Rattle.facts.specs.Odd.{bit_of}
use Rattle.facts.proofs.Bools.{iff}
use Rattle.channel.specs.Channel.{Connection}
use Rattle.channel.specs.Relaxed.{without}
use Rattle.loads.specs.Loads.{crosses, covered}
use Rattle.loads.proofs.Covers.{crosses_says, crosses_is, covered-marked}
use Rattle.loads.proofs.Edits.{without-none}
use Rattle.jobfile.specs.Rows.{tab}
use Rattle.jobfile.proofs.Decode.{tab-length}
use Rattle.state.specs.State.{m_in, connection_in, list_in, up, down}
use Rattle.state.specs.Walks.{in_span, with_mark, other_over}
use Rattle.state.proofs.Walks.{span_says, span_is}
use Rattle.panel.specs.Does.{carried}

module _ (a b l : ℕ) where
  pub carried-up : a < b → carried a b l ≡ up l
  unfolding carried
  carried-up h = ap (λ (c : Bool). cond c (up l) (cond (ltb b a) (down l) l)) (lt-ltb a b h)

  pub carried-down : b < a → carried a b l ≡ down l
  unfolding carried
  carried-down h = (λ i. cond (le-ltb a b (omega arith) i) (up l) (cond (lt-ltb b a h i) (down l) l))

  pub carried_same : a ≡ b → carried a b l ≡ l
  unfolding carried
  carried_same h = (λ i. cond (le-ltb a b (omega arith) i) (up l) (cond (le-ltb b a (omega arith) i) (down l) l))

-- a net that comes or not, goes or not
module _ (a l : ℕ) where
  pub carried_add : (f : Bool) → cond f (up l) l ≡ carried a (a + bit_of f) l
  carried_add true = sym (carried-up a (a + 1) l (omega arith))
  carried_add false = sym (carried_same a (a + 0) l (omega arith))

  pub carried_drop : (f : Bool) → cond f (down l) l ≡ carried (a + bit_of f) a l
  carried_drop true = sym (carried-down (a + 1) a l (omega arith))
  carried_drop false = sym (carried_same (a + 0) a l (omega arith))

  -- a connection that crossed and crosses, where another piece is or not: first what is left goes down, then what is new goes up
  pub carried_move : (over was is : Bool) → cond ((is && not was) && not over) (up (cond ((was && not is) && not over) (down l) l)) (cond ((was && not is) && not over) (down l) l) ≡ carried (a + bit_of (was && not over)) (a + bit_of (is && not over)) l
  carried_move true true true = sym (carried_same (a + 0) (a + 0) l refl)
  carried_move true true false = sym (carried_same (a + 0) (a + 0) l refl)
  carried_move true false true = sym (carried_same (a + 0) (a + 0) l refl)
  carried_move true false false = sym (carried_same (a + 0) (a + 0) l refl)
  carried_move false true true = sym (carried_same (a + 1) (a + 1) l refl)
  carried_move false true false = sym (carried-down (a + 1) (a + 0) l (omega arith))
  carried_move false false true = sym (carried-up (a + 0) (a + 1) l (omega arith))
  carried_move false false false = sym (carried_same (a + 0) (a + 0) l refl)

-- the columns of a span are those that the connection crosses
pub span_crosses : (c : Connection) (x : ℕ) → in_span c.left (c.right + 1) x ≡ crosses c x
span_crosses c x =
    iff
    (λ w. let s = span_says c.left (c.right + 1) x w in crosses_is c x s.0 (omega (arith, s.1)))
    (λ w. let s = crosses_says c x w in span_is c.left (c.right + 1) x s.0 (omega (arith, s.1)))

-- the same where the span of a connection that nobody made is cut to no column
pub cut_crosses : (c : Connection) (x : ℕ) → in_span c.left (max c.left (c.right + 1)) x ≡ crosses c x
cut_crosses c x =
    iff
    (λ w. let s = span_says c.left (max c.left (c.right + 1)) x w in crosses_is c x s.0 (omega (arith, s.0, s.1)))
    (λ w. let s = crosses_says c x w in span_is c.left (max c.left (c.right + 1)) x s.0 (omega (arith, s.1)))

-- another piece is over the column, by the list
module _ (s : List ℕ) (m : ℕ) (size : m ≡ m_in s) (c : Connection) (x : ℕ) where
  pub over-list : (i : ℕ) → other_over s m i c.mark x ≡ covered (without i (list_in s)) c x
  unfolding other_over
  over-list i = covered-marked (without i (tab (connection_in s) m 0)) (with_mark c.mark) c x refl ∙ ap (λ (n : ℕ). covered (without i (tab (connection_in s) n 0)) c x) size

  pub over_all : other_over s m m c.mark x ≡ covered (list_in s) c x
  over_all =
      over-list m
      ∙ ap (λ (n : ℕ). covered (without n (list_in s)) c x) (size ∙ sym (tab-length (connection_in s) (m_in s) 0))
      ∙ ap (λ (q : List Connection). covered q c x) (without-none (list_in s))
