use Rattle.std.proofs.Common.{◌≡◌, ◌++◌, take}
use Rattle.std.specs.List.{flat_map}
use Rattle.test_discovery.specs.Expected.{said_of}
use Rattle.test_discovery.specs.Annotations.{test_type}
use Rattle.test_discovery.proofs.expected.push_said_in_notes.Given as goal

abbrev pub invariant-loop-note : goal.invariant-loop-note
invariant-loop-note l = l.said ≡ l.initial.said ++ flat_map (said_of l.pool test_type) (take l.note-index l.notes)
