-- `bounds_of`: one reason or the other bars the track, or neither does.
use mathlib.Core.Path.{sym, ◌∙◌}
use Rattle.occupancy.proofs.Cells.{cell_many, cell_off, cell_open}
use Rattle.occupancy.proofs.bounds_of.Goals as goal

pub returns-then-too_many : goal.returns-then-too_many
returns-then-too_many c = λ t k r l f m. cell_many t k _ (sym (c.too_many.ensures t k r) ∙ c.if-too_many.true)

pub returns-then-off_performance : goal.returns-then-off_performance
returns-then-off_performance c = λ t k r l f m. cell_off t k _ (sym (c.off_performance.ensures t k f m) ∙ c.if-off_performance.true)

pub returns : goal.returns
returns c =
    λ t k r l f m.
    cell_open t k _ _ _ r l (sym (c.too_many.ensures t k r) ∙ c.if-too_many.false) (sym (c.off_performance.ensures t k f m) ∙ c.if-off_performance.false)
