-- `write`: each way out is a row of the table in its order, or none holds and the file is written.
use mathlib.Core.Path.{refl}
use native.Mathlib.Omega.{arith}
use lib.ListN.{length}
use Rattle.part.specs.Part.{tracks_in}
use Rattle.part.specs.Writes.{Takes, told}
use Rattle.part.proofs.Sections.{file_long}
use Rattle.part.proofs.Answers.{answer_2, answer_5, answer_9, answer_file}
use Rattle.part.proofs.held.Part.write.Goals as goal
use Rattle.part.proofs.held.Part.write.Goals.{Else-not-takes}

taken : (e : Else-not-takes) → Takes e.args.self.now.columns (tracks_in (told e.args.self.now).table) (length e.args.connections.now) e.args.limit
taken e = rw e.in-Ok.ensures.1 at e.if-not-takes.ensures

pub returns-in_default : goal.returns-in_default
returns-in_default c =
    let a = c.args in
    rw c.at.ensures (answer_2 (told a.self.now) a.connections.now a.limit (length a.buffer.now) (λ t. c.in_default.ensures (omega (arith, t.limits.k_high))), refl)

pub returns-then-not-takes : goal.returns-then-not-takes
returns-then-not-takes c =
    let a = c.args in
    rw c.at-then-not-takes.ensures (answer_2 (told a.self.now) a.connections.now a.limit (length a.buffer.now) (rw c.in-Ok.ensures.1 at c.if-not-takes.ensures), refl)

pub returns-in-Some : goal.returns-in-Some
returns-in-Some c =
    let a = c.args in
    rw c.at-in-Some.ensures (answer_5 (told a.self.now) a.connections.now a.limit (length a.buffer.now) (taken (goal.at.returns-in-Some c).Else-not-takes) c.in-Some.bad c.in-Some.ensures, refl)

pub returns-then-buffer-from : goal.returns-then-buffer-from
returns-then-buffer-from c =
    let a = c.args in
    let takes = taken (goal.at.returns-then-buffer-from c).Else-not-takes in
    rw c.at-then-buffer-from.ensures (answer_9 (told a.self.now) a.connections.now a.limit (length a.buffer.now) takes c.in_default-bad_connection.ensures (omega (arith, file_long (told a.self.now) a.self.now.rule a.connections.now a.limit takes.whole)), refl)

pub returns : goal.returns
returns c =
    let a = c.args in
    let takes = taken (goal.at.returns c).Else-not-takes in
    let passes = answer_file (told a.self.now) a.connections.now a.limit (length a.buffer.now) takes c.in_default-bad_connection.ensures (omega (arith, file_long (told a.self.now) a.self.now.rule a.connections.now a.limit takes.whole)) in
    (passes, rw c.in-Ok.ensures.1 at c.put_file.ensures)
