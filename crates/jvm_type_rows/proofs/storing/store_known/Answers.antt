use Rattle.std.proofs.Common.{rules, subst, sym}
use Rattle.std.specs.Int.{w32}
use Rattle.std.proofs.lemmas.Int.{to_z-of_z}
use mir.Val.{SFits}
use Rattle.program_rules.specs.declared.value.Value.TheVariants.{Ref}
use Rattle.program_rules.specs.declared.operation.Element.TheVariants.{ReferenceElement}
use Rattle.jvm_rows.specs.Effects.{Runs}
use Rattle.jvm_rows.specs.Storing.{storing_at}
use Rattle.jvm_type_rows.specs.Storing.{storing_known}
use Rattle.jvm_type_rows.proofs.storing.store_known.Goals as goal

pub returns-then-fits-clause-row : goal.returns-then-fits-clause-row
returns-then-fits-clause-row c =
    let f : SFits w32 c.args.index = search rules in
    let p = c.args.p.now in
    let w = c.args.world.now in
    let old = c.args.frames.now in
    let i = c.args.index in
    let x = c.args.array in
    let y = c.args.object in
    subst (λ b. Runs p (storing_known i x y b) c.in_ok-done.done old c.store_in.new.frames w c.store_in.new.world) (sym c.if-fits.true)
    (subst (λ j. Runs p (storing_at ReferenceElement j x (Ref y)) c.in_ok-done.done old c.store_in.new.frames w c.store_in.new.world) (to_z-of_z w32 i f) c.in_ok-done.ensures.row)

pub returns-clause-row : goal.returns-clause-row
returns-clause-row c =
    let p = c.args.p.now in
    let w = c.args.world.now in
    let old = c.args.frames.now in
    subst (λ b. Runs p (storing_known c.args.index c.args.array c.args.object b) c.in_ok-thrown.thrown old old w c.throw.new.world) (sym c.if-fits.false)
    (c.in_ok-thrown.ensures.throws old)
