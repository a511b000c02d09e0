use Rattle.std.proofs.Common.{◌≡◌, drop}
use Rattle.class_asm.specs.Members.{notes_from, notes_of}
use Rattle.class_asm.proofs.member.notes_of.Given as goal

abbrev pub invariant-loop-line : goal.invariant-loop-line
invariant-loop-line l = notes_from l.notes (drop l.line-index l.lines) ≡ notes_of l.lines
