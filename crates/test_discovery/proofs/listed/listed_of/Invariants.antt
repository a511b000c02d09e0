use Rattle.std.proofs.Common.{◌≡◌, ◌++◌, take, drop, map}
use Rattle.test_discovery.specs.Listed.{listed_of, listed_above, declares_any}
use Rattle.test_discovery.specs.Heads.{has_head}
use Rattle.program_rules.specs.Names.{Name}
use Rattle.test_discovery.proofs.listed.listed_of.Given as goal

abbrev pub invariant-loop-class : goal.invariant-loop-class
invariant-loop-class l =
    (l.listed.items ++ listed_above (map (λ c. c.now) (take l.class-index l.classes)) (map (λ c. c.now) (drop l.class-index l.classes)) ≡ listed_of (map (λ c. c.now) l.classes))
    × ((head : Name × Name) → has_head l.lower head ≡ declares_any (map (λ c. c.now) (take l.class-index l.classes)) head)
