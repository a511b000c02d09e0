use Rattle.std.proofs.Common.{None}
use Rattle.mt_attrs.proofs.Writing.{Written}
use Rattle.mt_attrs.specs.Notes.{note_bytes}
use Rattle.mt_attrs.proofs.write_notes.put_each_note.Given as goal

abbrev pub invariant-loop-note : goal.invariant-loop-note
invariant-loop-note l = Written note_bytes (λ note. None) l.notes l.note-index l.fn.out l.out
