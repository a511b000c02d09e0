use Rattle.std.proofs.Common.{subst, sym}
use Rattle.suite_workers.specs.Originals.{StartsOriginals}
use Rattle.suite_workers.proofs.original_worker.OriginalWorker.new.Goals as goal

pub invariant_of-result : goal.invariant_of-result
invariant_of-result c = (subst (λ q. StartsOriginals q c.args.setup.now) (sym c.in_ok-program.ensures) c.requires, (rw c.in-Some.is at c.in_ok-tables.ensures).0)
