use Rattle.jvm_unwind.proofs.Worlds.{searched, none_found}
use Rattle.jvm_unwind.proofs.searching.handler.Goals as goal

pub returns-clause-found : goal.returns-clause-found
returns-clause-found c = searched c.args.p.now c.args.thrown.now c.id-class.result c.args.rows.now c.args.at c.args.world.now c.find_handler.new.seen c.in_ok-to.to c.id-class.ensures.above c.in_ok-to.ensures.found

pub returns-clause-none : goal.returns-clause-none
returns-clause-none c = none_found c.args.p.now c.args.thrown.now c.id-class.result c.args.rows.now c.args.at c.args.world.now c.find_handler.new.seen c.in_ok-to.to c.id-class.ensures.above c.in_ok-to.ensures.found
