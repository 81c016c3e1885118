-- Any two answers that the contract of `reply` allows are equal, and so are the lent bytes after them: stated of the contract as the checker reads it.
-- Assumes nothing.
use mathlib.Core.Path.{◌≡◌}
use contract.Lifetimes.{Lfts}
use borrow.Fn.World.{ArgsD, ResD}
use borrow.Fn.Kinds.{ended_of}
use denote.Triple.Clauses.{AtExit}
use Rattle.reply.proofs.Exact.{replies_one}
use Rattle.reply.specs.contracts.reply as reply
use Rattle.reply.proofs.reply.Kinds as kinds
use Rattle.reply.proofs.reply.Reads as reads

pub one_answer : (κs : Lfts 3) (a : ArgsD reply.signature κs) (r r' : ResD reply.signature κs) (x x' : AtExit (ended_of 3 kinds.ps kinds.r) κs)
    → reads.Post κs a r x → reads.Post κs a r' x' → (r ≡ r') × (x.1.1.0.now ≡ x'.1.1.0.now)
one_answer κs a r r' x x' p q = replies_one a.0.now a.1.0.now a.1.1.0.now r r' x.1.1.0.now x'.1.1.0.now p q
