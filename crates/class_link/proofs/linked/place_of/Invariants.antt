use Rattle.std.proofs.Common.{◌≡◌, List, map, drop}
use Rattle.program_rules.specs.Linked.{method_from}
use Rattle.class_link.specs.declared.linked.Entry.{Entry}
use Rattle.class_link.specs.View.{method_of}
use Rattle.class_link.proofs.linked.place_of.Given as goal

abbrev pub invariant-loop-place : goal.invariant-loop-place
invariant-loop-place l = (es : List Entry) → method_from l.name l.desc 0 (map (method_of es) l.methods) ≡ method_from l.name l.desc l.place (map (method_of es) (drop l.place l.methods))
