-- Any two answers that the contract of `write_p1` allows are equal, and so are the bytes that they leave: stated of the contract as the checker reads it. Assumes nothing.
use mathlib.Core.Path.{◌≡◌}
use contract.Lifetimes.{Lfts}
use borrow.Fn.World.{ArgsD, ResD}
use borrow.Fn.Kinds.{ended_of}
use denote.Triple.Clauses.{AtExit}
use Rattle.part.specs.P1.{p1}
use Rattle.part.proofs.Answers.{writes_one}
use Rattle.part.specs.contracts.write_p1 as write-p1
use Rattle.part.proofs.write_p1.Kinds as kinds
use Rattle.part.proofs.write_p1.Reads as reads

pub one_answer : (κs : Lfts 2) (a : ArgsD write-p1.signature κs) (r r' : ResD write-p1.signature κs) (x x' : AtExit (ended_of 2 kinds.ps kinds.r) κs)
    → reads.Post κs a r x → reads.Post κs a r' x' → (r ≡ r') × (x.1.1.0.now ≡ x'.1.1.0.now)
one_answer κs a r r' x x' p q = writes_one p1 a.0.now a.1.0 a.1.1.0.now r r' x.1.1.0.now x'.1.1.0.now p q
