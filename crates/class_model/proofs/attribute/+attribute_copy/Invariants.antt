use Rattle.std.proofs.Common.{◌≡◌, take}
use Rattle.class_model.proofs.attribute.+attribute_copy.Given as goal

abbrev pub invariant-copy_attrs-loop-attr : goal.invariant-copy_attrs-loop-attr
invariant-copy_attrs-loop-attr l = l.copy ≡ take l.attr-index l.attr-items
