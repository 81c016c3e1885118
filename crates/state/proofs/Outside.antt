-- The columns of a span that are not of another, turned in two walks. Assumes nothing.
use mathlib.Core.Path.{◌≡◌, refl, ap, ◌∙◌}
use mathlib.Core.Bool.{Bool, true, false, ◌&&◌, ◌||◌, not}
use mathlib.Core.List.{List}
use Prim.Native.Nat.{ℕ, ◌+◌, ◌≤◌, min, max}
use native.Mathlib.Omega.{arith}
use lib.ListN.{get_or}
use Rattle.facts.proofs.Bools.{and_left}
use Rattle.channel.specs.Limits.{most_connections}
use Rattle.channel.specs.Channel.{Connection}
use Rattle.channel.specs.Relaxed.{without}
use Rattle.loads.specs.Loads.{covered}
use Rattle.state.specs.State.{record_at, loads_at, connection_in}
use Rattle.state.specs.declared.Way.{Way}
use Rattle.state.specs.Walks.{in_span, with_mark, other_over, Turned}
use Rattle.state.proofs.Walks.{outside_apart, outside_parts, turned_same, turned_both}
use Rattle.state.proofs.Lists.{tab-same}

-- what stands before the loads tells whether another piece is over the column
pub over-same : (s s' : List ℕ) (m : ℕ) → m ≤ most_connections → ((k : ℕ) → k ≤ loads_at → get_or s' k 0 ≡ get_or s k 0) → (i k x : ℕ) → other_over s' m i k x ≡ other_over s m i k x
unfolding other_over
over-same s s' m few e i k x =
    ap (λ (q : List Connection). covered (without i q) (with_mark k) x)
    (tab-same (connection_in s') (connection_in s) m 0 (λ j a b x.
    record { left = e (record_at j) (omega arith) x; right = e (record_at j + 1) (omega arith) x; mark = e (record_at j + 2) (omega arith) x }))

-- two tests, each beside a third
and_parts : (a b o : Bool) → ((a && o) || (b && o)) ≡ ((a || b) && o)
and_parts true true true = refl
and_parts true true false = refl
and_parts true false true = refl
and_parts true false false = refl
and_parts false b o = refl

-- the columns of a span that are not of another, turned in two walks
pub turned_outside : {way : Way} (s s₁ s₂ : List ℕ) (m but k a e b f front back : ℕ) → m ≤ most_connections → b ≤ f → front ≡ min e b → back ≡ max a f →
    Turned (λ x. in_span a front x && not (other_over s m but k x)) way s s₁ →
    Turned (λ x. in_span back e x && not (other_over s₁ m but k x)) way s₁ s₂ →
    Turned (λ x. (in_span a e x && not (in_span b f x)) && not (other_over s m but k x)) way s s₂
turned_outside s s₁ s₂ m but k a e b f front back few order at to g h =
    let over : ℕ → Bool = λ x. not (other_over s m but k x) in
    let one = turned_same g (λ x low. ap (λ (n : ℕ). in_span a n x && over x) at) in
    let two = turned_same h (λ x low. (λ i. in_span (to i) e x && not (over-same s s₁ m few g.others but k x i))) in
    turned_same (turned_both one two (λ x w. ap (λ (c : Bool). c && over x) (outside_apart a e b f x order (and_left (in_span a (min e b) x) _ w))))
    (λ x low. and_parts (in_span a (min e b) x) (in_span (max a f) e x) (over x) ∙ ap (λ (c : Bool). c && over x) (outside_parts a e b f x order))
