-- `put_file`: the three sections, one behind the other, are the file; how long each is gives the room and the distances.
use mathlib.Core.Path.{refl}
use native.Mathlib.Omega.{arith}
use borrow.Author.Rules.{rules}
use Rattle.text.proofs.Writing.{wrote_to}
use Rattle.part.specs.Writes.{told}
use Rattle.part.proofs.Sections.{section_long, ends_few, puts_file}
use Rattle.part.proofs.held.Part.put_file.Goals as goal

pub put_text-requires : goal.put_text-requires
put_text-requires c =
    let part = c.args.self.now in
    omega (arith, c.put_tracks.ensures.wrote.next, section_long (told part).table part.rule.cut)

pub put_trailer-requires : goal.put_trailer-requires
put_trailer-requires c =
    let part = c.args.self.now in
    let r = section_long (told part).table part.rule.cut in
    let few = ends_few (told part).table part.rule.cut in
    let p = c.put_tracks.ensures.wrote.next in
    let q = c.put_text.ensures.wrote.next in
    let takes = c.requires.takes in
    record { at_bound = omega arith; size_bound = omega arith; at_in_bounds = omega arith }

pub returns : goal.returns
returns c =
    let part = c.args.self.now in
    wrote_to (puts_file (told part) part.rule c.args.connections.now c.args.k c.requires.takes.whole refl c.put_tracks.ensures c.put_text.ensures (rw c.tracks.ensures at c.put_trailer.ensures)) (search rules)
