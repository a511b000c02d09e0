use Rattle.std.proofs.Common.{◌≡◌, ◌++◌, ◌-◌, map, length}
use Rattle.std.specs.Option.{option_copied}
use Rattle.test_discovery.specs.Listed.{files_of, rising, rising_from}
use Rattle.test_discovery.proofs.listed.rising.Given as goal

abbrev pub invariant-loop-turn : goal.invariant-loop-turn
invariant-loop-turn l =
    map (λ c. c.now) l.classes.items ++ rising_from (length l.program - l._turn) (files_of l.program) (option_copied l.next) ≡ rising (length l.program) (files_of l.program) l.name
