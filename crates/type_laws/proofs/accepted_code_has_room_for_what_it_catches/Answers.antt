use Rattle.type_laws.proofs.Landing.{covered_have_room, rows_have_room, bounded_have_room}
use Rattle.type_laws.proofs.accepted_code_has_room_for_what_it_catches.Goals as goal

pub returns : goal.returns
returns c = record { covered = covered_have_room; rows = rows_have_room; bounded = bounded_have_room }
