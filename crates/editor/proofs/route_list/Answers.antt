-- `route_list`: P1's writer refuses, by 2 or 5 since what it takes has room, or the router answers the file that it wrote. Leans on proofs/Core.antt.
use mathlib.Core.Path.{sym}
use Prim.Native.Nat.{ℕ}
use native.Mathlib.Omega.{arith}
use lib.ListN.{length-replicate}
use lib.Seq.{length-take-le}
use Rattle.std.proofs.lemmas.Result.{err_from_is_err_and}
use Rattle.editor.proofs.Core.{most_file, size-within, core_routes, core_refuses}
use Rattle.editor.proofs.route_list.Goals as goal

pub returns-in_err-size : goal.returns-in_err-size
returns-in_err-size c =
    let a = c.args in
    let p = err_from_is_err_and c.from_residual.result c.from_residual.ensures.1 in
    rw (p.1, p.2) (core_refuses a.connections.now a.limit _ c.write_p1.new.buffer c.in_err-size.field-0.0 c.in_err-size.ensures a.budget a.labels.now (omega (arith, length-replicate {A = ℕ} most_file 0)))

pub slice_bounds-file-end : goal.slice_bounds-file-end
slice_bounds-file-end c = size-within c.args.connections.now c.args.limit _ c.write_p1.new.buffer c.in_ok-size.size c.in_ok-size.ensures

pub slice_bounds-route-end : goal.slice_bounds-route-end
slice_bounds-route-end c = sym (length-take-le _ _ (size-within c.args.connections.now c.args.limit _ c.write_p1.new.buffer c.in_ok-size.size c.in_ok-size.ensures))

pub returns : goal.returns
returns c =
    let a = c.args in
    core_routes a.connections.now a.limit _ c.write_p1.new.buffer c.in_ok-size.size c.in_ok-size.ensures a.budget a.labels.now c.route.new.labels c.route.result c.route.ensures
