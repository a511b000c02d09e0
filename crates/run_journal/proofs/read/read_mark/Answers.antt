use Rattle.run_journal.specs.Calls.{known_in}
use Rattle.run_journal.proofs.Chunks.{mark_bad, mark_empty}
use Rattle.run_journal.proofs.read.read_mark.Goals as goal

pub returns-then-mark-ne1 : goal.returns-then-mark-ne1
returns-then-mark-ne1 c = λ known.
    mark_bad c.args.rest.now c.next.new.self c.args.content.now c.in-Some.mark c.at-at.result (known_in c.args.runs.now) c.in-Some.ensures c.if-mark-ne1.true c.if-mark-eq2.false c.at-at.ensures

pub returns-in-Err : goal.returns-in-Err
returns-in-Err c = λ known.
    mark_empty c.args.rest.now c.next.new.self c.args.content.now c.in-Some.mark c.at-at.result (known_in c.args.runs.now) c.in-Err.fault c.in-Some.ensures c.if-mark-ne1.false c.at-at.ensures (c.in-Err.ensures known)
