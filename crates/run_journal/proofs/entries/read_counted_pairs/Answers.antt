use Rattle.std.proofs.Common.{None}
use Rattle.std.proofs.lemmas.Result.{err_from_is_err_and}
use Rattle.history_rules.specs.declared.fault.HistoryFault.TheVariants.{Memory}
use Rattle.history_rules.specs.Items.{many_by}
use Rattle.history_rules.specs.Entries.{pair_at, with_pair}
use Rattle.history_file.proofs.Loops.{goes_by, ends_by, is_done_by}
use Rattle.run_journal.proofs.entries.read_counted_pairs.Goals as goal

pub returns-in_err-pair : goal.returns-in_err-pair
returns-in_err-pair c =
    let p = err_from_is_err_and c.from_residual.result c.from_residual.ensures.1 in
    rw (p.1, p.2) (ends_by Memory c.in_err-pair.field-0.0 (pair_at c.args.entries.now) with_pair c.loop.pairs c.args.count c.loop.counter c.loop.last c.loop.cur (many_by (pair_at c.args.entries.now) with_pair None c.args.count c.args.cur.now) c.loop-test.true c.in_err-pair.ensures c.loop.invariant)

pub loop-preserved : goal.loop-preserved
loop-preserved c =
    rw c.in_ok-push.ensures.ok (goes_by (pair_at c.args.entries.now) with_pair c.loop.pairs c.args.count c.loop.counter c.loop.last c.loop.cur c.in_ok-pair.pair c.read_pair.new.cur (many_by (pair_at c.args.entries.now) with_pair None c.args.count c.args.cur.now) c.loop-test.true c.in_ok-pair.ensures c.loop.invariant)

pub returns : goal.returns
returns c = is_done_by (pair_at c.args.entries.now) with_pair c.loop.pairs c.args.count c.loop.counter c.loop.last c.loop.cur (many_by (pair_at c.args.entries.now) with_pair None c.args.count c.args.cur.now) c.loop-test.false c.loop.invariant
