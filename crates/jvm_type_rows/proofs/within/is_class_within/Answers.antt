use Rattle.std.proofs.Common.{◌∙◌, sym, ap}
use Rattle.program_rules.specs.Names.{same, descriptor_of}
use Rattle.program_rules.specs.Programs.{supers}
use Rattle.class_table.specs.Table.{look}
use Rattle.jvm_type_rows.proofs.Described.{object_first, class_nowhere, class_listed, not_described, same_is}
use Rattle.jvm_type_rows.proofs.within.is_class_within.Goals as goal

pub returns-then-is_text : goal.returns-then-is_text
returns-then-is_text c =
    object_first (supers (look c.args.p.now) c.args.class.now) c.args.descriptor.now (sym c.is_text.ensures ∙ c.if-is_text.true)

pub returns-then-not-described : goal.returns-then-not-described
returns-then-not-described c =
    let t = c.args.descriptor.now in
    class_nowhere (supers (look c.args.p.now) c.args.class.now) t (sym c.is_text.ensures ∙ c.if-is_text.false)
    (not_described t
    (sym (ap (λ n. same (descriptor_of n) t) (c.in_ok-name.ensures ∙ c.name_in-units.ensures))
    ∙ sym c.in_ok-described.ensures ∙ c.if-not-described.true))

pub returns : goal.returns
returns c =
    let t = c.args.descriptor.now in
    c.is_named_below.ensures
    ∙ class_listed (supers (look c.args.p.now) c.args.class.now) t c.in_ok-name.name (sym c.is_text.ensures ∙ c.if-is_text.false)
    (same_is (descriptor_of c.in_ok-name.name) t (sym c.in_ok-described.ensures ∙ c.if-not-described.false))
