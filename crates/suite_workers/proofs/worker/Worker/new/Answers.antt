use Rattle.std.proofs.Common.{refl}
use Rattle.suite_workers.proofs.Works.{begins_work}
use Rattle.suite_workers.proofs.worker.Worker.new.Goals as goal

pub invariant_of-result : goal.invariant_of-result
invariant_of-result c = begins_work c.args.program.now c.args.setup.now _ c.requires c.in_ok-program.ensures refl refl ((rw c.in-Some.is at c.in_ok-tables.ensures).0)
