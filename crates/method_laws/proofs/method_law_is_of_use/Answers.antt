use Rattle.method_laws.proofs.Judging.{a_before, a_after, a_differs}
use Rattle.method_laws.proofs.method_law_is_of_use.Goals as goal

pub returns-clause-before : goal.returns-clause-before
returns-clause-before c = a_before

pub returns-clause-after : goal.returns-clause-after
returns-clause-after c = a_after

pub returns-clause-differs : goal.returns-clause-differs
returns-clause-differs c = a_differs
