use Rattle.std.proofs.Common.{sym, ◌∙◌}
use Rattle.class_model.proofs.NameLaws.{part_fails, part_passes, last_part}
use Rattle.class_model.proofs.declared_name.is_class_name.Goals as goal

pub returns-then-not-is_field_name : goal.returns-then-not-is_field_name
returns-then-not-is_field_name c =
    sym (part_fails c.loop-part.rest.now c.in-Some.part.now c.in-Some.behind.now c.in-Some.ensures.found (sym c.is_field_name.ensures ∙ c.if-not-is_field_name.true)) ∙ c.loop-part.invariant

pub loop-part-preserved : goal.loop-part-preserved
loop-part-preserved c =
    sym (part_passes c.loop-part.rest.now c.in-Some.part.now c.in-Some.behind.now c.in-Some.ensures.found (sym c.is_field_name.ensures ∙ c.if-not-is_field_name.false)) ∙ c.loop-part.invariant

pub returns : goal.returns
returns c = c.is_field_name-2.ensures ∙ sym (last_part c.loop-part.rest.now c.in_default.ensures.found) ∙ c.loop-part.invariant
