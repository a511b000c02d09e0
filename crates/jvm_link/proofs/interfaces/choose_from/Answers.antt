use Rattle.jvm_link.proofs.Choosing.{choice_of}
use Rattle.jvm_link.proofs.interfaces.choose_from.Goals as goal

pub returns : goal.returns
returns c = choice_of c.args.program.now c.args.name.now c.args.desc.now c.args.found.now c.args.found.now c.find_all_above.new.self _ c.requires c.in_ok-find_all_above.ensures c.specific_among-specific.ensures c.first_site-first.ensures
