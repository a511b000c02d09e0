use Rattle.std.proofs.Common.{◌≡◌, List, map, drop}
use Rattle.program_rules.specs.Outlines.{head_of}
use Rattle.machine_rules.specs.Initialisation.{initializer_from}
use Rattle.class_link.specs.declared.linked.Entry.{Entry}
use Rattle.class_link.specs.View.{method_of}
use Rattle.jvm_initialization.proofs.initializer.first_initializer.Given as goal

abbrev pub invariant-loop-place : goal.invariant-loop-place
invariant-loop-place l =
    (es : List Entry) →
    initializer_from 0 (map head_of (map (method_of es) l.methods))
    ≡ initializer_from l.place (map head_of (map (method_of es) (drop l.place l.methods)))
