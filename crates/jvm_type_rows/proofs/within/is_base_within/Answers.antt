use Rattle.std.proofs.Common.{◌∙◌, sym}
use Rattle.program_rules.specs.Programs.{supers}
use Rattle.class_table.specs.Table.{look}
use Rattle.jvm_type_rows.proofs.Described.{within_nowhere, within_above, within_text, within_class}
use Rattle.jvm_type_rows.proofs.within.is_base_within.Goals as goal

pub returns-then-is_empty : goal.returns-then-is_empty
returns-then-is_empty c =
    within_nowhere (supers (look c.args.p.now) c.args.class.now) c.args.one.now c.args.other.now (sym c.is_empty.ensures ∙ c.if-is_empty.true)

pub returns-then-is_array_name : goal.returns-then-is_array_name
returns-then-is_array_name c =
    c.is_above_arrays.ensures
    ∙ within_above (supers (look c.args.p.now) c.args.class.now) c.args.one.now c.args.other.now (sym c.is_empty.ensures ∙ c.if-is_empty.false)
    (sym c.is_array_name.ensures ∙ c.if-is_array_name.true) c.requires

pub returns-then-not-begins_class : goal.returns-then-not-begins_class
returns-then-not-begins_class c =
    c.is_same.ensures
    ∙ within_text (supers (look c.args.p.now) c.args.class.now) c.args.one.now c.args.other.now (sym c.is_empty.ensures ∙ c.if-is_empty.false)
    (sym c.is_array_name.ensures ∙ c.if-is_array_name.false) (sym c.begins_class.ensures ∙ c.if-not-begins_class.true)

pub returns : goal.returns
returns c =
    c.in_ok-within.ensures
    ∙ within_class (supers (look c.args.p.now) c.args.class.now) c.args.one.now c.args.other.now (sym c.is_empty.ensures ∙ c.if-is_empty.false)
    (sym c.is_array_name.ensures ∙ c.if-is_array_name.false) (sym c.begins_class.ensures ∙ c.if-not-begins_class.false)
