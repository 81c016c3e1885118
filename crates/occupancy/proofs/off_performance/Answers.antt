-- `off_performance`: a plain connection may use any track, a critical one a performance track.
use mathlib.Core.Path.{sym, ap, ◌∙◌}
use mathlib.Core.Bool.{not}
use lib.Dec.{eqb}
use Rattle.channel.specs.Channel.{critical_in}
use Rattle.occupancy.proofs.Cells.{plain_off, critical_off}
use Rattle.occupancy.proofs.off_performance.Goals as goal

pub returns-then-is_critical : goal.returns-then-is_critical
returns-then-is_critical c = λ t k p q. (λ i. not (eqb (p i) 1)) ∙ critical_off t k (ap critical_in (sym q) ∙ sym c.is_critical.ensures ∙ c.if-is_critical.true)

pub returns-else-is_critical : goal.returns-else-is_critical
returns-else-is_critical c = λ t k p q. rw c.if-is_critical.false (plain_off t k (ap critical_in (sym q) ∙ sym c.is_critical.ensures ∙ c.if-is_critical.false))
