use Rattle.std.proofs.Common.{◌∙◌, subst, map}
use Rattle.class_link.specs.Symbols.{kind_of}
use Rattle.class_link.specs.View.{method_ref_of}
use Rattle.jvm_receivers.specs.Targets.{FindsTarget}
use Rattle.jvm_receivers.proofs.Operands.{target_missing, target_null, target_taken, target_words}
use Rattle.jvm_receivers.proofs.targets.take_target.Goals as goal

pub returns-in-Missing-clause-row : goal.returns-in-Missing-clause-row
returns-in-Missing-clause-row c = λ go.
    let s = c.args.frames.now in
    let found = subst (λ ks. FindsTarget (map kind_of ks) s c.target_at.result) (c.as_slice-kinds.ensures ∙ c.deref.ensures) c.target_at.ensures in
    target_missing c.args.p.now (method_ref_of c.args.reference.now) go s c.args.world.now (subst (FindsTarget (map kind_of c.args.reference.now.args) s) c.in-Missing.is found)

pub returns-in_ok-thrown-in-Null-clause-row : goal.returns-in_ok-thrown-in-Null-clause-row
returns-in_ok-thrown-in-Null-clause-row c = λ go.
    let s = c.args.frames.now in
    let r = method_ref_of c.args.reference.now in
    let found = subst (λ ks. FindsTarget (map kind_of ks) s c.target_at.result) (c.as_slice-kinds.ensures ∙ c.deref.ensures) c.target_at.ensures in
    target_null c.args.p.now r go c.in_ok-thrown-in-Null.thrown s c.args.world.now c.throw.new.world
    (subst (FindsTarget (map kind_of c.args.reference.now.args) s) c.in-Null.is found) (c.in_ok-thrown-in-Null.ensures.throws s r)

pub returns-in-Object-clause-row : goal.returns-in-Object-clause-row
returns-in-Object-clause-row c = λ go.
    let s = c.args.frames.now in
    let found = subst (λ ks. FindsTarget (map kind_of ks) s c.target_at.result) (c.as_slice-kinds.ensures ∙ c.deref.ensures) c.target_at.ensures in
    target_taken c.args.p.now (method_ref_of c.args.reference.now) go c.in-Object.object c.in-Object.args s c.args.world.now (subst (FindsTarget (map kind_of c.args.reference.now.args) s) c.in-Object.is found)

pub returns-in-Object-clause-args : goal.returns-in-Object-clause-args
returns-in-Object-clause-args c =
    let s = c.args.frames.now in
    target_words (map kind_of c.as_slice-kinds.result.now) c.in-Object.object c.in-Object.args s (subst (FindsTarget (map kind_of c.as_slice-kinds.result.now) s) c.in-Object.is c.target_at.ensures)
