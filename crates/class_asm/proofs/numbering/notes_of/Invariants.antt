use Rattle.std.proofs.Common.{◌≡◌, drop}
use Rattle.class_asm.specs.File.{each}
use Rattle.class_asm.specs.File.{note_of}
use Rattle.class_asm.proofs.EachLaws.{fronted}
use Rattle.class_asm.proofs.numbering.notes_of.Given as goal

abbrev pub invariant-loop-note : goal.invariant-loop-note
invariant-loop-note l = fronted l.notes (each note_of (drop l.note-index l.stated) l.pool) ≡ each note_of l.stated l.fn.pool
