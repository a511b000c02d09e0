use Rattle.std.proofs.Common.{◌≡◌, drop}
use Rattle.class_link.specs.Linking.{first_of, code_within}
use Rattle.class_link.proofs.linking.first_code.Given as goal

abbrev pub invariant-loop-attr : goal.invariant-loop-attr
invariant-loop-attr l = first_of code_within l.attrs ≡ first_of code_within (drop l.attr-index l.attrs)
