-- The tests are those of the definition, over the bytes of both cells and both owners.
use mathlib.Core.Bool.{◌&&◌, not}
use lib.Dec.{leb, ltb, eqb}
use Rattle.places.specs.Table.{due}
use Rattle.places.proofs.is_due.Goals as goal

pub returns : goal.returns
unfolding due
returns c =
    λ z.
    let a' = c.first_in-a.ensures.0 z in let e' = c.last_in-e.ensures.0 z in let b' = c.first_in-b.ensures.0 z in let d' = c.last_in-d.ensures.0 z in
    let apart = not (eqb (c.owner_in.ensures z) (c.owner_in-2.ensures z)) in
    ltb c.args.h c.args.i && (((leb a' d' && leb b' e') && apart) && (not (ltb e' a') && not (ltb d' b')))
