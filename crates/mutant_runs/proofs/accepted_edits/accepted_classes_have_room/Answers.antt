use Rattle.mutant_runs.proofs.Codes.{accepted_room, bounded_named, seen_room}
use Rattle.mutant_runs.proofs.accepted_edits.accepted_classes_have_room.Goals as goal

pub returns : goal.returns
returns c = record { classes = accepted_room; named = bounded_named; seen = seen_room }
