use Rattle.std.proofs.Common.{◌≡◌, drop}
use Rattle.class_asm.specs.Members.{body_from, beginning, sized}
use Rattle.class_asm.proofs.member.body_of.Given as goal

abbrev pub invariant-loop-line : goal.invariant-loop-line
invariant-loop-line l = body_from l.labels l.progress (drop l.line-index l.lines) ≡ body_from l.labels (beginning (sized l.fn.sizes)) l.lines
