-- What the reader answered fits the file (`job-room`), the export says what the reader says, and a job's connections stand where it tells (`connections_stand`).
use mathlib.Core.Path.{◌≡◌}
use mathlib.Core.List.{List}
use Prim.Native.Nat.{ℕ}
use native.Mathlib.Omega.{arith}
use lib.ListN.{length}
use Rattle.std.specs.Prelude.{Result, Ok, Err}
use Rattle.refusals.specs.declared.Refusal.{Refusal}
use Rattle.jobfile.specs.declared.file.Sizes.{Sizes}
use Rattle.jobfile.specs.Reads.{Reads, Stand}
use Rattle.jobfile.proofs.Exact.{job-room, connections_stand}
use Rattle.silienvo.specs.Exports.{job_given}
use Rattle.silienvo.specs.Fits.{ReadFits}
use Rattle.silienvo.proofs.silienvo_read.Goals as goal

reads_fit : (f : List ℕ) (r : Result Sizes Refusal) → Reads f r → ReadFits (length f) r
reads_fit f (Ok s) h = job-room f s h
reads_fit f (Err r) h = tt

-- only a job has the kind 1, and there its connections stand
job_stands : (f : List ℕ) (r : Result Sizes Refusal) → Reads f r → (job_given (length f) r).kind ≡ 1 → Stand f (job_given (length f) r).start (job_given (length f) r).length
job_stands f (Ok s) h e = connections_stand f s h
job_stands f (Err r) h e = absurd (omega arith)

pub job_given-requires : goal.job_given-requires
job_given-requires c = reads_fit c.args.file.now c.read_job.result c.read_job.ensures

pub returns : goal.returns
returns c =
    let r = c.read_job in
    record { answer = r.result; says = r.ensures; is = c.job_given.ensures; stand = rw c.job_given.ensures (job_stands _ r.result r.ensures) }
