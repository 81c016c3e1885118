-- `part::write_p1` meets its contract: P1 is a part whose table keeps the rule.
use Rattle.part.proofs.Table.{p1_rule_lem}
use Rattle.part.proofs.write_p1.Goals as goal

pub invariant_of-write : goal.invariant_of-write
invariant_of-write c = record { rule = p1_rule_lem }
