use Rattle.jvm_link.proofs.Selected.{selects_virtual}
use Rattle.jvm_link.proofs.selections.find_virtual.Goals as goal

pub returns : goal.returns
returns c = selects_virtual c.args.program.now c.args.reference.now c.args.to c.args.resolved c.in_ok-answer.answer c.requires.resolved c.in_ok-answer.ensures
