use Rattle.std.proofs.lemmas.Result.{err_from_is_err_and}
use Rattle.run_journal.proofs.Names.{entries_go_on, entry_ends, entries_done}
use Rattle.run_journal.proofs.entries.read_counted_entries.Goals as goal

pub returns-in_err-entry : goal.returns-in_err-entry
returns-in_err-entry c =
    let p = err_from_is_err_and c.from_residual.result c.from_residual.ensures.1 in
    rw (p.1, p.2) (entry_ends c.args.classes.now c.args.count c.loop.counter c.args.cur.now c.loop.cur c.loop.seen c.loop.entries c.in_err-entry.field-0.0 c.loop.invariant c.loop-test.true c.in_err-entry.ensures.read)

pub loop-preserved : goal.loop-preserved
loop-preserved c =
    entries_go_on c.args.classes.now c.args.count c.loop.counter c.args.cur.now c.loop.cur c.read_entry.new.cur c.loop.seen c.read_entry.new.seen c.loop.entries c.push.new.self c.in_ok-entry.entry c.in_ok-entry.ensures.numbered.0 c.loop.invariant c.loop-test.true c.in_ok-push.ensures.ok c.in_ok-entry.ensures.numbered.1 c.in_ok-entry.ensures.read c.in_ok-entry.ensures.told

pub returns : goal.returns
returns c = entries_done c.args.classes.now c.args.count c.loop.counter c.args.cur.now c.loop.cur c.loop.seen c.loop.entries c.loop.invariant c.loop-test.false
