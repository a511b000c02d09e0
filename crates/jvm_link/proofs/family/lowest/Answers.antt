use Rattle.std.proofs.Common.{true, false}
use Rattle.jvm_link.proofs.Resolving.{lowest_array, lowest_class, lowest_by}
use Rattle.jvm_link.proofs.family.lowest.Goals as goal

pub returns-then-array-clause-rising : goal.returns-then-array-clause-rising
returns-then-array-clause-rising c =
    let p = c.args.program.now in
    lowest_by p c.args.id.0 c.top.result.0 c.args.array true c.if-array.true (lowest_array p c.args.id.0 c.top.result.0 c.top.ensures.top c.top.ensures.ends)

pub returns-clause-rising : goal.returns-clause-rising
returns-clause-rising c = lowest_by c.args.program.now c.args.id.0 c.args.id.0 c.args.array false c.if-array.false (lowest_class c.args.program.now c.args.id.0)
