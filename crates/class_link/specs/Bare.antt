-- Methods by their heads and bodies, and fields without a constant, as they are made at first (this
-- project's own). No public clause cites these.
use Rattle.std.specs.Prelude.{ℕ, None}
use Rattle.program_rules.specs.Names.{Name}
use Rattle.class_link.specs.declared.linked.LinkedField.{LinkedField}
use Rattle.class_link.specs.declared.linked.LinkedMethod.{LinkedMethod}
use Rattle.class_link.specs.declared.linked.LinkedBody.{LinkedBody}
use Rattle.class_link.specs.Symbols.{kind_stated, type_stated}

abbrev pub bare_field : ℕ → Name → Name → LinkedField
bare_field flags name desc = record { flags = flags; name = name; desc = desc; kind = kind_stated desc; constant = None }

abbrev pub method_with : ℕ → Name → Name → LinkedBody → LinkedMethod
method_with flags name desc body = record {
  flags = flags;
  name = name;
  desc = desc;
  args = (type_stated desc).args;
  result = (type_stated desc).ret;
  body = body;
}
