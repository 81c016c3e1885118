-- `connections` takes the part from where they start up to the trailer: a job's file ends in its connections and the trailer (connections_stand).
use mathlib.Core.Path.{◌≡◌, refl}
use Prim.Native.Nat.{◌*◌, ◌-◌}
use native.Mathlib.Omega.{arith}
use lib.ListN.{length}
use Rattle.std.specs.Prelude.{Ok, Err}
use Rattle.jobfile.specs.Rows.{connections_at}
use Rattle.jobfile.proofs.Decode.{room}
use Rattle.jobfile.proofs.Exact.{answer_job, connections_stand}
use Rattle.jobfile.proofs.connections.Goals as goal

pub returns-in-Ok : goal.returns-in-Ok
returns-in-Ok c =
    let f = c.args.f.now in
    let e = c.connections_at-at.ensures in
    let facts = rw c.in-Ok.ensures at c.in-Ok.job.facts in
    let told = rw c.in-Ok.ensures at c.in-Ok.job.told in
    let reads = answer_job f facts (λ i. omega (arith, c.type_inv.f i)) c.in-Ok.job.sizes told in
    let n : length f - 8 - connections_at f ≡ 3 * c.in-Ok.job.sizes.connections = omega (arith, room f facts, told.m_is) in
    record { answer = Ok c.in-Ok.job.sizes; reads = reads; handed = (record { block = refl; place = omega (arith, told.m_is); bytes = rw (e, n, told.m_is) }, connections_stand f c.in-Ok.job.sizes reads) }

pub returns-in-Err : goal.returns-in-Err
returns-in-Err c = record { answer = Err c.in-Err.field-0; reads = c.in-Err.ensures; handed = record { block = refl; place = omega arith; bytes = refl } }
