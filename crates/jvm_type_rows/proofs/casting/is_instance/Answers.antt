use Rattle.std.proofs.Common.{◌∙◌, sym, ap, Some}
use Rattle.jvm_world.specs.View.{object_of}
use Rattle.jvm_type_rows.specs.Instances.{instance_in}
use Rattle.jvm_type_rows.proofs.Casts.{instance_is}
use Rattle.jvm_type_rows.proofs.casting.is_instance.Goals as goal

pub returns-in_ok-within-in-Some : goal.returns-in_ok-within-in-Some
returns-in_ok-within-in-Some c = λ v m.
    let p = c.args.p.now in
    let n = c.args.name.now in
    ap (instance_in p n) (c.in-Some.ensures v m)
    ∙ ap (λ b. Some b) (instance_is p (object_of p c.in-Some.found.now) n ∙ sym c.in_ok-within-in-Some.ensures)

pub returns-in-None : goal.returns-in-None
returns-in-None c = λ v m. ap (instance_in c.args.p.now c.args.name.now) (c.in-None.ensures v m)
