use Rattle.std.proofs.Common.{◌≡◌, map, take}
use Rattle.class_link.specs.View.{field_of}
use Rattle.class_link.specs.Linking.{library_field}
use Rattle.class_link.proofs.library_linking.library_fields.Given as goal

abbrev pub invariant-loop-field : goal.invariant-loop-field
invariant-loop-field l = map field_of l.linked.items ≡ map library_field (take l.field-index l.fields)
