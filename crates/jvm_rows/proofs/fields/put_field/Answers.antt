use Rattle.std.proofs.Common.{subst, drop}
use Rattle.program_rules.specs.declared.fault.Fault.TheVariants.{NullPointerException}
use Rattle.class_link.specs.Symbols.{kind_of}
use Rattle.jvm_state.specs.Tops.{TakesReference}
use Rattle.jvm_frames.specs.Frames.{stack_of}
use Rattle.jvm_rows.specs.declared.effect.Effect.TheVariants as effect
use Rattle.jvm_rows.specs.Rows.{storing_in, throwing}
use Rattle.jvm_rows.proofs.Ends.{along, no_row}
use Rattle.jvm_rows.proofs.Fielding.{storing_by, put_other, put_none, put_null, put_some, by_field}
use Rattle.jvm_rows.proofs.fields.put_field.Goals as goal

pub returns-in_default-clause-row : goal.returns-in_default-clause-row
returns-in_default-clause-row c = λ x e d.
    let p = c.args.p.now in
    let w = c.args.world.now in
    let old = c.args.frames.now in
    let k = kind_of c.args.kind.now in
    by_field p x k c.args.slot effect.NoRow old old w w e d
    (no_row p (storing_by k c.args.slot) old w (put_other p old w k c.args.slot c.in_default.ensures.none))

pub returns-in_default-reference_at-clause-row : goal.returns-in_default-reference_at-clause-row
returns-in_default-reference_at-clause-row c = λ x e d.
    let p = c.args.p.now in
    let w = c.args.world.now in
    let old = c.args.frames.now in
    let k = kind_of c.args.kind.now in
    by_field p x k c.args.slot effect.NoRow old old w w e d
    (no_row p (storing_by k c.args.slot) old w (put_none p old w k c.args.slot c.in-Some.value c.in-Some.ensures.some c.in_default-reference_at.ensures.none))

pub returns-in-Some-reference-clause-row : goal.returns-in-Some-reference-clause-row
returns-in-Some-reference-clause-row c = λ x e d.
    let p = c.args.p.now in
    let w = c.args.world.now in
    let old = c.args.frames.now in
    let k = kind_of c.args.kind.now in
    let y = c.in-Some-reference.object in
    let there = subst (λ o. TakesReference (drop 1 (stack_of old.frame)) o (drop 2 (stack_of old.frame))) c.in-Some-reference.is c.in-Some-reference_at.ensures.some in
    by_field p x k c.args.slot c.put_in.result old c.put_in.new.frames w c.put_in.new.world e d
    (along p (storing_by k c.args.slot) (storing_in c.args.slot c.narrow_to-narrowed.result y) c.put_in.result old c.put_in.new.frames w c.put_in.new.world
    (put_some p old w k c.args.slot y c.in-Some.value c.narrow_to-narrowed.result c.narrow_to-narrowed.ensures c.in-Some.ensures.some there) c.put_in.ensures.row)

pub returns-in_ok-thrown-in-None-clause-row : goal.returns-in_ok-thrown-in-None-clause-row
returns-in_ok-thrown-in-None-clause-row c = λ x e d.
    let p = c.args.p.now in
    let w = c.args.world.now in
    let old = c.args.frames.now in
    let k = kind_of c.args.kind.now in
    let there = subst (λ o. TakesReference (drop 1 (stack_of old.frame)) o (drop 2 (stack_of old.frame))) c.in-None.is c.in-Some-reference_at.ensures.some in
    by_field p x k c.args.slot c.in_ok-thrown-in-None.thrown old old w c.throw.new.world e d
    (along p (storing_by k c.args.slot) (throwing NullPointerException) c.in_ok-thrown-in-None.thrown old old w c.throw.new.world
    (put_null p old w k c.args.slot c.in-Some.value c.in-Some.ensures.some there) (c.in_ok-thrown-in-None.ensures.throws old))
