use Rattle.std.proofs.Common.{arith, ap, ◌<◌, length}
use Rattle.std.specs.Option.{option_copied}
use Rattle.test_discovery.specs.Listed.{files_of, rising}
use Rattle.test_discovery.proofs.Rising.{rising_step}
use Rattle.test_discovery.proofs.listed.rising.Goals as goal

pub loop-turn-preserved : goal.loop-turn-preserved
loop-turn-preserved c =
    let n = length c.args.program.now in
    let lt : c.loop-turn._turn < n = omega (arith, c.loop-turn-test.true, c.len-turn-end.ensures.value) in
    rising_step (λ x. x.now) (files_of c.args.program.now) n c.loop-turn._turn c.loop-turn.classes.items c.push.new.self.items c.in-Some.class _ _ (rising n (files_of c.args.program.now) c.args.name.now) lt c.in_ok-push.ensures.items (ap option_copied c.in-Some.is) c.file_above-next.ensures c.loop-turn.invariant
