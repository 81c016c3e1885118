-- Any two reports that the contract of `report` allows are equal, length, status and bytes: stated of the contract as the checker reads it. Assumes nothing.
use mathlib.Core.Path.{◌≡◌}
use contract.Lifetimes.{Lfts}
use borrow.Fn.World.{ArgsD, ResD}
use borrow.Fn.Kinds.{ended_of}
use denote.Triple.Clauses.{AtExit}
use Rattle.report.specs.Report.{status_number}
use Rattle.report.proofs.Prints.{printed-one}
use Rattle.report.proofs.Statuses.{status_one}
use Rattle.report.specs.contracts.report as report
use Rattle.report.proofs.report.Kinds as kinds
use Rattle.report.proofs.report.Reads as reads

pub one_report : (κs : Lfts 2) (a : ArgsD report.signature κs) (r r' : ResD report.signature κs) (x x' : AtExit (ended_of 2 kinds.ps kinds.r) κs)
    → reads.Post κs a r x → reads.Post κs a r' x' → (r ≡ r') × (x.1.0.now ≡ x'.1.0.now)
one_report κs a r r' x x' p q =
    let e = printed-one a.0.now a.1.0.now _ _ r.length r'.length (status_number r.status) (status_number r'.status) p q in
    (λ i. record { length = e.0 i; status = status_one r.status r'.status e.1 i }, e.2)
