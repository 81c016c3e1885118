-- `bad_connection`: all connections passed keep their rule.
use Prim.Native.Nat.{ℕ, ◌<◌, ◌+◌, ◌*◌}
use Rattle.channel.specs.Valid.{ConnectionRule}
use Rattle.jobfile.specs.Rows.{connection_size, connection_read}
use Rattle.jobfile.proofs.bad_connection.Given as goal

abbrev pub invariant-loop-i : goal.invariant-loop-i
invariant-loop-i l = (x : ℕ) → x < l.i → ConnectionRule l.n (connection_read l.f (l.start + connection_size * x))
