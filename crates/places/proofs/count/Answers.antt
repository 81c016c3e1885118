-- There are not as many clauses as the number asked for, so it lies in no row.
use Rattle.places.proofs.Finding.{many_past}
use Rattle.places.proofs.count.Goals as goal

pub unreachable-requires : goal.unreachable-requires
unreachable-requires c = let s = c.args.table.now in many_past s.runs s.tracks s.connections c.in-Ok.field-0 s.few_tracks s.few_connections c.in-Ok.ensures
