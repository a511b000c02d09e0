use Rattle.std.proofs.Common.{sym, ◌∙◌}
use Rattle.class_model.proofs.NameLaws.{goes_on, is_lone, has_none}
use Rattle.class_model.proofs.declared_name.has_lone_surrogate.Goals as goal

pub returns-in_default : goal.returns-in_default
returns-in_default c = sym (is_lone c.loop-rest.rest.now (sym c.loop-rest-test.ensures) c.in_default.ensures) ∙ c.loop-rest.invariant

pub loop-rest-preserved : goal.loop-rest-preserved
loop-rest-preserved c = sym (goes_on c.loop-rest.rest.now c.in-Some.behind.now c.in-Some.ensures) ∙ c.loop-rest.invariant

pub returns : goal.returns
returns c = sym (has_none c.loop-rest.rest.now (sym c.loop-rest-test.ensures)) ∙ c.loop-rest.invariant
