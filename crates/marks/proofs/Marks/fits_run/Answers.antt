-- `fits_run`: a run whose last segment is not before the first is asked, and its marks are all free or not.
use mathlib.Core.Path.{◌≡◌, sym, ◌∙◌}
use mathlib.Core.Bool.{◌&&◌, not}
use Prim.Native.Nat.{◌+◌, ◌-◌}
use native.Mathlib.Omega.{arith}
use borrow.Author.Tests.{lt-ltb, le-ltb}
use Rattle.std.proofs.Common.{rules, tests}
use Rattle.std.specs.List.{between, list_all}
use Rattle.std.proofs.lemmas.Iterator.{YieldsList-from_slice}
use Rattle.std.proofs.lemmas.Iterator.Search.{all_from_yields_List}
use Rattle.marks.specs.Marking.{base, free, all_free, fits_run}
use Rattle.marks.proofs.Laws.{all_free_list}
use Rattle.marks.proofs.Marks.fits_run.Goals as goal

pub returns-then-last-first : goal.returns-then-last-first
unfolding fits_run
returns-then-last-first c =
    let a = c.args in
    λ i. not (sym (lt-ltb a.last a.first c.if-last-first.true) i) && all_free a.owner a.self.now.0 (base a.label.0 + a.first) (a.last + 1 - a.first)

pub returns : goal.returns
unfolding fits_run
returns c =
    let a = c.args in
    let marks = a.self.now.0 in
    let at = base a.label.0 + a.first in
    let n = a.last + 1 - a.first in
    let s = c.requires.short c.if-last-first.false in
    let b = c.base_of-base.ensures in
    let from : c.base_of-base.result + a.first ≡ at = omega (arith, b.0) in
    let to : c.base_of-base.result + a.last + 1 ≡ at + n = omega (arith, b.0, c.if-last-first.false) in
    let all : c.all.result ≡ list_all (free a.owner) (between at (at + n) marks) =
    all_from_yields_List (free a.owner) _ _ c.all.result c.all.ensures.ran (YieldsList-from_slice (between at (at + n) marks) (c.iter.ensures.rest ∙ (λ i. between (from i) (to i) marks))) (λ x b q k. search (rules, tests)) in
    all
    ∙ all_free_list a.owner marks at n (omega (arith, b.0, b.1, s))
    ∙ (λ i. not (sym (le-ltb a.last a.first c.if-last-first.false) i) && all_free a.owner marks at n)
