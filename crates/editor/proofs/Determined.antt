-- Any two answers that the contract of `route_p1` allows are equal, and so is what they leave of the labels: stated of the contract as the checker reads it. Assumes nothing.
use mathlib.Core.Path.{◌≡◌}
use contract.Lifetimes.{Lfts}
use denote.Triple.Clauses.{AtExit}
use borrow.Fn.World.{ArgsD, ResD}
use borrow.Fn.Kinds.{ended_of}
use Rattle.editor.proofs.Answers.{edits_one}
use Rattle.editor.specs.contracts.route_p1 as route-p1
use Rattle.editor.proofs.route_p1.Kinds as kinds
use Rattle.editor.proofs.route_p1.Reads as reads

pub one_edited : (κs : Lfts 2) (a : ArgsD route-p1.signature κs) (r r' : ResD route-p1.signature κs) (x x' : AtExit (ended_of 2 kinds.ps kinds.r) κs)
    → reads.Post κs a r x → reads.Post κs a r' x' → (r ≡ r') × (x.1.1.1.0.now ≡ x'.1.1.1.0.now)
one_edited κs a r r' x x' p q = edits_one a.0.now a.1.0 a.1.1.0 a.1.1.1.0.now r r' _ _ p q
