use mathlib.Core.Path.{sym}
use native.Mathlib.Numerals.{add-one}
use native.Mathlib.Omega.{arith}
use lib.Seq.{length-take-le, take-suc, take_all}
use Rattle.text.proofs.Writing.{◌followed_by◌, puts_none}
use Rattle.text.proofs.Writer.put_text.Goals as goal

pub loop-b-init : goal.loop-b-init
loop-b-init c = puts_none c.args.self.now

pub put-requires : goal.put-requires
put-requires c =
    let l = c.loop-b in
    omega (arith, l.invariant.wrote.next, l.invariant.long, length-take-le l.b-index c.args.text.now (omega arith), c.requires)

pub loop-b-preserved : goal.loop-b-preserved
loop-b-preserved c =
    let l = c.loop-b in
    rw (add-one, take-suc c.args.text.now l.b-index 0 (omega arith)) (l.invariant followed_by c.put.ensures)

pub returns : goal.returns
returns c =
    let l = c.loop-b in
    rw (sym (take_all l.b-index c.args.text.now (omega arith))) l.invariant
