use Rattle.std.proofs.Common.{◌≡◌, List, map, drop}
use Rattle.std.specs.List.{list_any}
use Rattle.program_rules.specs.Outlines.{head_of, is_default}
use Rattle.class_link.specs.declared.linked.Entry.{Entry}
use Rattle.class_link.specs.View.{method_of}
use Rattle.jvm_initialization.proofs.states.have_default.Given as goal

abbrev pub invariant-loop-method : goal.invariant-loop-method
invariant-loop-method l = (es : List Entry) → list_any is_default (map head_of (map (method_of es) l.methods)) ≡ list_any is_default (map head_of (map (method_of es) (drop l.method-index l.methods)))
