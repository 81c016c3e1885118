-- Any two answers that the contract of `rows` allows are equal, and so is what they leave in the buffer: stated of the contract as the checker reads it. Assumes nothing.
use mathlib.Core.Path.{◌≡◌}
use contract.Lifetimes.{Lfts}
use borrow.Fn.World.{ArgsD, ResD}
use borrow.Fn.Kinds.{ended_of}
use denote.Triple.Clauses.{AtExit}
use Rattle.rows.proofs.Laws.{lines-one}
use Rattle.rows.specs.contracts.rows as rows
use Rattle.rows.proofs.rows.Kinds as kinds
use Rattle.rows.proofs.rows.Reads as reads

pub one_answer : (κs : Lfts 3) (a : ArgsD rows.signature κs) (r r' : ResD rows.signature κs) (x x' : AtExit (ended_of 3 kinds.ps kinds.r) κs)
    → reads.Post κs a r x → reads.Post κs a r' x' → (r ≡ r') × (x.1.1.0.now ≡ x'.1.1.0.now)
one_answer κs a r r' x x' p q = lines-one a.0.now a.1.0.now a.1.1.0.now r r' x.1.1.0.now x'.1.1.0.now p q
