-- `route_p1`: too many connections are refused, and else the answer to their bytes is that to the connections (as_records).
use mathlib.Core.Path.{◌≡◌, refl, ap, ◌∙◌}
use mathlib.Core.List.{List, [], ◌∷◌, append_assoc}
use Prim.Native.Nat.{ℕ, suc, ◌+◌, ◌*◌}
use native.Mathlib.Omega.{arith}
use lib.ListN.{length, take, get_or, set}
use lib.Seq.{take-length, sets, length-sets, sets-eq}
use borrow.Author.Rules.{rules}
use Rattle.jobfile.specs.File.{joined, connection_bytes}
use Rattle.jobfile.specs.Rows.{connection_size}
use Rattle.editor.specs.Edits.{connection_of, bytes_of, none, refuses}
use Rattle.editor.proofs.Records.{front_more, as_records, too_many_lem}
use Rattle.editor.proofs.route_p1.Goals as goal

pub returns-then-connections-gt-MOST_CONNECTIONS : goal.returns-then-connections-gt-MOST_CONNECTIONS
returns-then-connections-gt-MOST_CONNECTIONS c = rw c.at.ensures (refuses _ (too_many_lem c.args.connections.now c.args.limit c.if-connections-gt-MOST_CONNECTIONS.true) refl refl)

pub loop-i-init : goal.loop-i-init
unfolding joined
loop-i-init c = (search rules, search rules)

-- three stores, one behind the other, as one text
three : (l : List ℕ) (at x y z : ℕ) → set (set (set l at x) (at + 1) y) (at + 2) z ≡ sets l at (x ∷ y ∷ z ∷ [])
three l at x y z =
    let p : at + 1 ≡ suc at = omega arith in
    let q : at + 2 ≡ suc (suc at) = omega arith in
    ap (λ k. set (set (set l at x) k y) (at + 2) z) p ∙ ap (λ k. set (set (set l at x) (suc at) y) k z) q

pub loop-i-preserved : goal.loop-i-preserved
loop-i-preserved c =
    let cs = c.args.connections.now in
    let l = c.loop-i in
    let r = get_or cs l.i none in
    let one = connection_bytes (connection_of r) in
    let at = connection_size * l.i in
    let stored = three l.bytes at r.left r.right r.mark in
    (ap length stored ∙ length-sets l.bytes at one ∙ l.invariant.0, rw (stored, sets-eq one l.bytes at (omega (arith, l.invariant.0)), append_assoc (take at l.bytes) one _) (front_more cs l.i _ _ c.loop-i-test.true l.invariant.1))

pub returns : goal.returns
returns c =
    let a = c.args in
    let cs = a.connections.now in
    let whole : c.loop-i.i ≡ length cs = omega arith in
    let front : take (connection_size * length cs) c.loop-i.bytes ≡ bytes_of cs = (rw whole at c.loop-i.invariant.1) ∙ ap bytes_of (take-length cs) in
    as_records cs a.limit a.budget a.labels.now c.route_list.new.labels c.route_list.result (rw front at c.route_list.ensures)
