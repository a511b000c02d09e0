use Rattle.std.proofs.Common.{subst, map}
use Rattle.test_discovery.specs.Listed.{listed_of, downwards}
use Rattle.test_discovery.specs.Rules.{fault_with}
use Rattle.test_discovery.specs.Scripts.{tests_of}
use Rattle.test_discovery.specs.Discovery.{Adds}
use Rattle.test_discovery.proofs.First.{first_fault_with, first_tests_in}
use Rattle.test_discovery.proofs.search.add_class.Goals as goal

pub returns-in-len1-up : goal.returns-in-len1-up
returns-in-len1-up c =
    let cs = c.args.classes.now in
    let x = c.class-item.result in
    let old = c.args.tests.now in
    let new = c.add_with.new.tests in
    subst (λ f. Adds f (tests_of (map (λ r. r.now) cs)) old new c.add_with.result) (first_fault_with (λ r. r.now) cs x c.in-len1-up.len_at_least c.class-item.is)
    (subst (λ ts. Adds (fault_with x.now (downwards (listed_of (map (λ r. r.now) cs)))) ts old new c.add_with.result) (first_tests_in (λ r. r.now) cs x c.in-len1-up.len_at_least c.class-item.is) c.add_with.ensures)
