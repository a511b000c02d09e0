use Rattle.std.proofs.Common.{◌∙◌, refl, ap}
use Rattle.program_rules.specs.Resolution.{first_declared}
use Rattle.jvm_link.specs.Sites.{rising_from}
use Rattle.jvm_link.proofs.Found.{class_within, fewer_left, upwards, method_passed, method_here}
use Rattle.jvm_link.proofs.methods.first_declared.Goals as goal

pub declared_method-requires : goal.declared_method-requires
declared_method-requires c = class_within c.args.program.now _ _ c.loop-next.invariant.within c.in-Some.is

pub superclass-next-requires : goal.superclass-next-requires
superclass-next-requires c = class_within c.args.program.now _ _ c.loop-next.invariant.within c.in-Some.is

pub loop-next-smaller : goal.loop-next-smaller
loop-next-smaller c = fewer_left c.args.program.now _ _ _ c.in-Some.is c.superclass-next.ensures.goes_on c.superclass-next.ensures.ends

pub loop-next-preserved : goal.loop-next-preserved
loop-next-preserved c =
    let p = c.args.program.now in
    let name = c.args.name.now in
    let desc = c.args.desc.now in
    record {
      within = c.superclass-next.ensures.within;
      rest =
          c.loop-next.invariant.rest ∙ ap (λ o. first_declared name desc (rising_from p o)) c.in-Some.is
          ∙ method_passed p name desc c.in-Some.class.0 c.superclass-next.result (upwards p c.in-Some.class.0 c.superclass-next.result c.superclass-next.ensures.goes_on c.superclass-next.ensures.ends) c.in_default-declared_method.ensures.none;
    }

pub returns-in-Some-declared_method : goal.returns-in-Some-declared_method
returns-in-Some-declared_method c =
    let p = c.args.program.now in
    let within = class_within c.args.program.now _ _ c.loop-next.invariant.within c.in-Some.is in
    method_here p c.args.name.now c.args.desc.now _ _ c.len-len.ensures.form within c.in-Some-declared_method.ensures.some
    (c.loop-next.invariant.rest ∙ ap (λ o. first_declared c.args.name.now c.args.desc.now (rising_from p o)) c.in-Some.is)

pub returns : goal.returns
returns c = c.loop-next.invariant.rest ∙ ap (λ o. first_declared c.args.name.now c.args.desc.now (rising_from c.args.program.now o)) c.in_default.is

pub loop-next-init : goal.loop-next-init
loop-next-init c = record { within = c.requires; rest = refl }
