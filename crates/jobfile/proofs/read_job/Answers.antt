-- `read_job` tells the sizes of the file that was read.
use native.Mathlib.Omega.{arith}
use Rattle.jobfile.proofs.Exact.{answer_job}
use Rattle.jobfile.proofs.read_job.Goals as goal

pub returns : goal.returns
returns c = let r = c.in_ok-read in answer_job c.args.f.now (rw r.ensures at r.field-0.facts) (λ i. omega (arith, c.type_inv.f i)) r.field-0.sizes (rw r.ensures at r.field-0.told)
