use Rattle.std.proofs.Common.{◌∙◌, ap, Option, Some}
use Rattle.class_model.specs.declared.kind.Kind.{Kind}
use Rattle.class_model.proofs.ParameterLaws.{ends, goes_on}
use Rattle.class_model.specs.Steps.{kinds_at}
use Rattle.class_model.proofs.descriptor.parameters_at.Goals as goal

pub returns-in_default : goal.returns-in_default
returns-in_default c =
    ends c.loop-kinds.kinds c.loop-kinds.rest.now (kinds_at c.args.units.now) c.loop-kinds.invariant c.in_ok-parameter.behind.now
    (c.in_ok-parameter.ensures.found ∙ ap (λ (p : Option (Option Kind)). Some (p, c.in_ok-parameter.behind.now)) c.in_default.is)

pub loop-kinds-preserved : goal.loop-kinds-preserved
loop-kinds-preserved c =
    rw c.in_ok-kinds.ensures (goes_on c.loop-kinds.kinds c.loop-kinds.rest.now (kinds_at c.args.units.now) c.loop-kinds.invariant c.in-Some.kind c.in_ok-parameter.behind.now
    (c.in_ok-parameter.ensures.found ∙ ap (λ (p : Option (Option Kind)). Some (p, c.in_ok-parameter.behind.now)) c.in-Some.is))
