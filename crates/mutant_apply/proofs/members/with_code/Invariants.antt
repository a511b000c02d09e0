use Rattle.std.proofs.Common.{◌≡◌, ◌++◌, drop}
use Rattle.std.specs.Prelude.{if◌then◌else◌}
use Rattle.mutant_apply.specs.Edited.{with_code}
use Rattle.mutant_apply.proofs.members.with_code.Given as goal

-- what was passed and what is left make the whole
abbrev pub invariant-loop-attr : goal.invariant-loop-attr
invariant-loop-attr l = l.edited ++ (if l.is_edited then drop l.attr-index l.attr-items else with_code l.new (drop l.attr-index l.attr-items)) ≡ with_code l.new l.attr-items
