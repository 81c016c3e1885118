-- Both bytes of the cell, compared.
use lib.Dec.{ltb}
use Rattle.places.proofs.is_shut.Goals as goal

pub returns : goal.returns
returns c = λ z. ltb (c.last_in.ensures.0 z) (c.first_in.ensures.0 z)
