-- `route_p1`: the array has its length, and the bytes of the connections that were passed stand in front.
use mathlib.Core.Path.{◌≡◌}
use Prim.Native.Nat.{◌*◌}
use lib.ListN.{length, take}
use Rattle.channel.specs.Limits.{most_connections}
use Rattle.jobfile.specs.Rows.{connection_size}
use Rattle.editor.specs.Edits.{bytes_of}
use Rattle.editor.proofs.route_p1.Given as goal

abbrev pub invariant-loop-i : goal.invariant-loop-i
invariant-loop-i l = (length l.bytes ≡ connection_size * most_connections) × (take (connection_size * l.i) l.bytes ≡ bytes_of (take l.i l.connections))
