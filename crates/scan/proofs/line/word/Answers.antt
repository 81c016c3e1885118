-- `scan::line::word` meets its contract: a word is one of the three texts or none of them (StatusWords).
use mathlib.Core.Path.{sym, ◌∙◌}
use Rattle.std.proofs.lemmas.Bool.Decides.{Decides-eqb, not_from_Decides}
use Rattle.std.proofs.lemmas.Slice.Eq.{slice_eq-Decides}
use Rattle.dimacs.specs.Reply.{satisfiable, unsatisfiable, unknown, text}
use Rattle.scan.proofs.StatusWords.{word-kind, no_status_kind}
use Rattle.scan.proofs.line.word.Goals as goal

pub returns-then-eq : goal.returns-then-eq
unfolding text
returns-then-eq c = word-kind satisfiable _ ((slice_eq-Decides Decides-eqb _ _ _ c.eq.ensures).0 c.if-eq.true ∙ c.as_slice.ensures)

pub returns-then-eq-2 : goal.returns-then-eq-2
unfolding text
returns-then-eq-2 c = word-kind unsatisfiable _ ((slice_eq-Decides Decides-eqb _ _ _ c.eq-else-eq.ensures).0 c.if-eq-2.true ∙ c.as_slice-else-eq.ensures)

pub returns-then-eq-3 : goal.returns-then-eq-3
unfolding text
returns-then-eq-3 c = word-kind unknown _ ((slice_eq-Decides Decides-eqb _ _ _ c.eq-else-eq-2.ensures).0 c.if-eq-3.true ∙ c.as_slice-else-eq-2.ensures)

pub returns-else-eq-3 : goal.returns-else-eq-3
unfolding text
returns-else-eq-3 c =
    no_status_kind _
    (λ e. not_from_Decides _ (slice_eq-Decides Decides-eqb _ _ _ c.eq.ensures) c.if-eq.false (e ∙ sym c.as_slice.ensures))
    (λ e. not_from_Decides _ (slice_eq-Decides Decides-eqb _ _ _ c.eq-else-eq.ensures) c.if-eq-2.false (e ∙ sym c.as_slice-else-eq.ensures))
    (λ e. not_from_Decides _ (slice_eq-Decides Decides-eqb _ _ _ c.eq-else-eq-2.ensures) c.if-eq-3.false (e ∙ sym c.as_slice-else-eq-2.ensures))
