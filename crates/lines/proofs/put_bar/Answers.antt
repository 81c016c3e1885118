-- A bar is the forbidden code at the connection's variables, which are within the limit of V.
use native.Mathlib.Omega.{arith}
use Rattle.clauses.specs.Clauses.{bar}
use Rattle.lines.proofs.Words.{last_variable}
use Rattle.lines.proofs.put_bar.Goals as goal

pub put_literals-requires : goal.put_literals-requires
put_literals-requires c = let z = last_variable c.args.i c.args.w c.requires.i_lt_most_connections c.requires.w_le_most_bits in rw c.from.ensures (omega arith)

pub returns-clause-wrote : goal.returns-clause-wrote
unfolding bar
returns-clause-wrote c = rw c.from.ensures at c.put_literals.ensures.wrote
