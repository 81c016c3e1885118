-- The loop keeps: the first bytes of the text are written, as many as were gone over. Each turn is `put` of one more.
use lib.ListN.{take}
use Rattle.text.specs.Text.{Puts}
use Rattle.text.proofs.Writer.put_text.Given as goal

abbrev pub invariant-loop-b : goal.invariant-loop-b
invariant-loop-b l = Puts l.initial.self (take l.b-index l.text) l.self
