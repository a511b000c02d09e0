use Rattle.std.specs.Prelude.{[]}
use Rattle.machine_checks.proofs.collections.iterator_of.Goals as goal

pub returns : goal.returns
returns c = c.in_ok-deed.ensures []
