use Rattle.std.proofs.Common.{arith}
use Rattle.std.specs.Option.{option_map}
use Rattle.suite_workers.proofs.Prefixes.{stand_first, stand_more, stand_whole}
use Rattle.suite_workers.proofs.look_ups.standings_of.Goals as goal

pub loop-number-init : goal.loop-number-init
loop-number-init c = stand_first c.args.index.now.history c.args.program.now c.in_ok-standings.standings c.in_ok-standings.ensures

pub loop-number-preserved : goal.loop-number-preserved
loop-number-preserved c = stand_more c.args.program.now c.len-count.ensures.form c.loop-number.number c.info-info.result.now c.info-info.ensures.place c.args.index.now.history c.name-name.result.now (option_map (λ s. s.now) c.bytes_of-file.result) c.loop-number.standings c.put.new.self c.name-name.ensures.value c.bytes_of-file.ensures c.in_ok-put.ensures c.loop-number.invariant

pub returns : goal.returns
returns c = stand_whole c.args.index.now.history c.args.program.now c.loop-number.number c.loop-number.standings (omega (arith, c.loop-number-test.false, c.len-count.ensures.value)) c.loop-number.invariant
