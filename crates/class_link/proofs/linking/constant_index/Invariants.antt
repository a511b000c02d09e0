use Rattle.std.proofs.Common.{◌≡◌, drop}
use Rattle.class_link.specs.Linking.{first_of, value_of}
use Rattle.class_link.proofs.linking.constant_index.Given as goal

abbrev pub invariant-loop-attr : goal.invariant-loop-attr
invariant-loop-attr l = first_of value_of l.attrs ≡ first_of value_of (drop l.attr-index l.attrs)
