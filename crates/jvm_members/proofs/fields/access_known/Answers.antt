use Rattle.jvm_members.proofs.Known.{known_used}
use Rattle.jvm_members.proofs.fields.access_known.Goals as goal

pub returns-clause-row : goal.returns-clause-row
returns-clause-row c = λ r stands.
    known_used c.args.p.now c.args.class.0 c.args.index c.args.field c.requires.known c.args.access r c.in_ok-done.done c.args.frames.now c.access_slot.new.frames c.args.world.now c.consult.new.world c.access_slot.new.world
    c.in_ok-consult.ensures.kept.world c.in_ok-consult.ensures.moves c.in_ok-consult.ensures.kept.limits c.in_ok-done.ensures.row stands
