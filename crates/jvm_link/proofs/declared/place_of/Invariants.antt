use Rattle.std.proofs.Common.{◌≡◌, map, drop}
use Rattle.class_link.specs.View.{field_of}
use Rattle.jvm_link.specs.Sites.{field_place}
use Rattle.jvm_link.proofs.declared.place_of.Given as goal

abbrev pub invariant-loop-place : goal.invariant-loop-place
invariant-loop-place l = field_place l.name l.desc 0 (map field_of l.fields) ≡ field_place l.name l.desc l.place (map field_of (drop l.place l.fields))
