use Rattle.std.proofs.Common.{subst}
use Rattle.program_rules.specs.declared.fault.Fault.TheVariants.{InstantiationError}
use Rattle.jvm_rows.specs.Rows.{throwing}
use Rattle.jvm_rows.proofs.Ends.{along}
use Rattle.jvm_rows.specs.Making.{made_row, makes_plain, instance_row, AreInstances}
use Rattle.jvm_rows.proofs.Making.{an_abstract, an_instance}
use Rattle.jvm_rows.proofs.instances.make_instance.Goals as goal

pub returns-then-is_abstract-clause-row : goal.returns-then-is_abstract-clause-row
returns-then-is_abstract-clause-row c = λ n d h.
    let p = c.args.p.now in
    let w = c.args.world.now in
    let old = c.args.frames.now in
    along p (instance_row n d) (throwing InstantiationError) c.in_ok-thrown.thrown old old w c.throw.new.world
    (an_abstract p old w c.args.class.0 c.args.values c.args.more n d
    (subst (λ b. AreInstances p c.args.class.0 b c.args.values c.args.more n d) c.if-is_abstract.true h))
    (c.in_ok-thrown.ensures.throws old)

pub returns-clause-row : goal.returns-clause-row
returns-clause-row c = λ n d h.
    let p = c.args.p.now in
    let w = c.args.world.now in
    let old = c.args.frames.now in
    along p (instance_row n d) (made_row (makes_plain p c.args.class.0 c.args.values c.args.more) 0) c.in_ok-done.done old c.push_instance.new.frames w c.push_instance.new.world
    (an_instance p old w c.args.class.0 c.args.values c.args.more n d
    (subst (λ b. AreInstances p c.args.class.0 b c.args.values c.args.more n d) c.if-is_abstract.false h))
    c.in_ok-done.ensures.row
