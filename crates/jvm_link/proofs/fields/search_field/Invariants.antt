use Rattle.std.proofs.Common.{◌≡◌, ◌-◌, List, length, drop}
use Rattle.program_rules.specs.Programs.{Node}
use Rattle.program_rules.specs.Resolution.{search_field}
use Rattle.jvm_link.specs.Sites.{nodes_at}
use Rattle.jvm_link.proofs.fields.search_field.Given as goal

abbrev pub invariant-loop-at : goal.invariant-loop-at
invariant-loop-at l = (rising : List Node) → search_field rising l.name l.desc (nodes_at l.program l.classes) ≡ search_field rising l.name l.desc (nodes_at l.program (drop l.at l.classes))

abbrev pub decreases-loop-at : goal.decreases-loop-at
decreases-loop-at l = length l.classes - l.at
