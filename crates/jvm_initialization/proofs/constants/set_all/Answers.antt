use Rattle.std.proofs.Common.{◌≡◌, ◌∙◌, sym, ap, subst, true, IsSomeAnd}
use Rattle.std.specs.Prelude.{is_some}
use Rattle.program_rules.specs.Linked.{is_interface}
use Rattle.machine_rules.specs.Initialisation.{sets_constants}
use Rattle.class_link.specs.declared.linked.LinkedClass.{LinkedClass}
use Rattle.class_table.specs.Table.{name_at}
use Rattle.jvm_world.specs.View.{Means}
use Rattle.jvm_initialization.proofs.Rooms.{constants_of}
use Rattle.jvm_initialization.proofs.constants.set_all.Goals as goal

pub set_fields-requires-clause-room : goal.set_fields-requires-clause-room
set_fields-requires-clause-room c v m =
    let p = c.args.p.now in
    let a = c.args.class.0 in
    let value = c.linked-linked.ensures.value in
    let same = constants_of p a c.info.result.now.linked c.as_slice.result.now c.is_interface-all_static.result c.info.ensures.class
    (c.is_interface-all_static.ensures ∙ ap (λ (l : LinkedClass). is_interface l.flags) value)
    (c.as_slice.ensures ∙ ap (λ (l : LinkedClass). l.fields) value) in
    subst (λ l. is_some (sets_constants c.args.world.now.limits (name_at p a) l v) ≡ true) same (c.requires.room v m)

pub returns-clause-sets : goal.returns-clause-sets
returns-clause-sets c v m =
    let p = c.args.p.now in
    let a = c.args.class.0 in
    let value = c.linked-linked.ensures.value in
    let same = constants_of p a c.info.result.now.linked c.as_slice.result.now c.is_interface-all_static.result c.info.ensures.class
    (c.is_interface-all_static.ensures ∙ ap (λ (l : LinkedClass). is_interface l.flags) value)
    (c.as_slice.ensures ∙ ap (λ (l : LinkedClass). l.fields) value) in
    subst (λ l. IsSomeAnd (sets_constants c.args.world.now.limits (name_at p a) l v) (Means p c.set_fields.new.world)) (sym same) (c.in_ok-set_fields.ensures.sets v m)
