-- `scan::read` meets its contract: at each place, what is right of the rest of the text is right of the whole (Reader), and the words met
-- so far are counted and marked (Marked); at the end they are the answer's.
use Rattle.scan.proofs.Marked.{Reached}
use Rattle.scan.proofs.read.Given as goal

abbrev pub invariant-loop-i : goal.invariant-loop-i
invariant-loop-i l = Reached l.text l.variables.count l.seen l.m l.number l.said l.tally l.i
