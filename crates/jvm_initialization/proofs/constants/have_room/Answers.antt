use Rattle.std.proofs.Common.{◌∙◌, ap, map}
use Rattle.program_rules.specs.Linked.{is_interface}
use Rattle.class_link.specs.declared.linked.LinkedClass.{LinkedClass}
use Rattle.class_link.specs.View.{field_of}
use Rattle.jvm_initialization.specs.Constants.{constants_in}
use Rattle.jvm_initialization.proofs.Rooms.{constants_of, tells}
use Rattle.jvm_initialization.proofs.constants.have_room.Goals as goal

pub returns : goal.returns
returns c =
    let p = c.args.p.now in
    let a = c.args.class.0 in
    let all = c.is_interface-all_static.result in
    let fs = c.as_slice.result.now in
    let value = c.linked-linked.ensures.value in
    tells p a c.args.world.now c.new-counted.result (constants_in all 0 (map field_of fs)) c.in_ok-room.room c.new-counted.ensures
    (constants_of p a c.info.result.now.linked fs all c.info.ensures.class
    (c.is_interface-all_static.ensures ∙ ap (λ (l : LinkedClass). is_interface l.flags) value)
    (c.as_slice.ensures ∙ ap (λ (l : LinkedClass). l.fields) value)) c.in_ok-room.ensures
