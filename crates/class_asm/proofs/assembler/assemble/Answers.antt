use Rattle.class_asm.proofs.AssembledLaws.{stated_text, class_written, told_first, numbered_from, whole}
use Rattle.class_asm.proofs.assembler.assemble.Goals as goal

pub returns-in-Err : goal.returns-in-Err
returns-in-Err c = λ other. told_first c.args.text.now c.in-Err.fault (c.in-Err.ensures other)

pub class_of-requires : goal.class_of-requires
class_of-requires c = stated_text c.args.text.now c.in-Ok.stated.0 c.in-Ok.stated.1 c.in-Ok.ensures

pub within_limits-requires : goal.within_limits-requires
within_limits-requires c =
    class_written c.in-Ok.stated.0 (numbered_from c.new.result) c.in_ok-numbered.numbered.0 c.in_ok-numbered.numbered.1 c.in_ok-numbered.ensures (stated_text c.args.text.now c.in-Ok.stated.0 c.in-Ok.stated.1 c.in-Ok.ensures)

pub returns : goal.returns
returns c =
    whole c.args.text.now c.in-Ok.stated.0 c.in-Ok.stated.1 c.in_ok-numbered.numbered.0 c.in_ok-numbered.numbered.1 c.new.result c.within_limits.result c.in-Ok.ensures c.new.ensures c.in_ok-numbered.ensures c.within_limits.ensures
