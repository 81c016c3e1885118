-- Old files mean what they meant: where marks are 0 or 1, the clause list is that of document 01's rule. Assumes nothing.
use mathlib.Core.Path.{◌≡◌, ap}
use Rattle.channel.specs.Channel.{Job}
use Rattle.channel.specs.Before.{OldMarks, rules_before}
use Rattle.channel.proofs.Before.{old_rules}
use Rattle.clauses.specs.Clauses.{grid_by, clauses_of, clauses}

pub old-clauses : (j : Job) → OldMarks j → clauses j ≡ clauses_of (grid_by (rules_before j))
old-clauses j old = ap (λ r. clauses_of (grid_by r)) (old_rules j old)
