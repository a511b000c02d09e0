use Rattle.std.proofs.Common.{subst, map, length}
use Rattle.test_discovery.specs.Listed.{listed_of, downwards}
use Rattle.test_discovery.specs.Rules.{fault_with}
use Rattle.test_discovery.specs.Scripts.{tests_of}
use Rattle.test_discovery.specs.Searching.{CountsTo}
use Rattle.test_discovery.proofs.First.{first_fault_with, first_tests_in}
use Rattle.test_discovery.proofs.count.count_class.Goals as goal

pub returns-in-len1-up : goal.returns-in-len1-up
returns-in-len1-up c =
    let cs = c.args.classes.now in
    let x = c.class-item.result in
    subst (λ f. CountsTo f (length (tests_of (map (λ r. r.now) cs))) c.count_with.result) (first_fault_with (λ r. r.now) cs x c.in-len1-up.len_at_least c.class-item.is)
    (subst (λ ts. CountsTo (fault_with x.now (downwards (listed_of (map (λ r. r.now) cs)))) (length ts) c.count_with.result) (first_tests_in (λ r. r.now) cs x c.in-len1-up.len_at_least c.class-item.is) c.count_with.ensures)
