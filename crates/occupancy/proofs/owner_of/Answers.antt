-- `owner_of`: a net is its own number, and a connection on its own is numbered behind the nets.
use mathlib.Core.Path.{sym, ◌∙◌}
use Rattle.occupancy.proofs.Owners.{owner_alone, owner_net}
use Rattle.occupancy.proofs.owner_of.Goals as goal

pub returns-then-net-eq0 : goal.returns-then-net-eq0
returns-then-net-eq0 c = sym (owner_alone _ _ (sym c.net_of-net.ensures ∙ c.if-net-eq0.true))

pub returns : goal.returns
returns c = let e = c.net_of-net.ensures in e ∙ sym (owner_net _ _ (λ z. c.if-net-eq0.false (e ∙ z)))
