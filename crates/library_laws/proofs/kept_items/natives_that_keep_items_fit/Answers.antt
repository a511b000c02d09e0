use Rattle.library_laws.proofs.kept_items.natives_that_keep_items_fit.Goals as goal
use Rattle.library_laws.proofs.KeepingClasses.{collections_fit, objects_fit}

-- src/lib.rt:11:1
pub returns-clause-collections : goal.returns-clause-collections
returns-clause-collections c = collections_fit

-- src/lib.rt:11:1
pub returns-clause-objects : goal.returns-clause-objects
returns-clause-objects c = objects_fit
