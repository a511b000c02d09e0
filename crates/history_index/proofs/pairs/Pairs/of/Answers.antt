use Rattle.std.proofs.Common.{arith, subst, length, ◌≤◌}
use Rattle.std.specs.Prelude.{All}
use Rattle.std.proofs.lemmas.List.{take_all}
use Rattle.history_index.specs.Numbers.{HasPair, pairs_in}
use Rattle.history_index.proofs.Testing.{pairs_step}
use Rattle.history_index.proofs.pairs.Pairs.of.Goals as goal

pub loop-row-preserved : goal.loop-row-preserved
loop-row-preserved c = record {
  known = c.in_ok-add.ensures.known;
  few = (let a = c.in_ok-add.ensures.few in let b = c.loop-row.invariant.few in omega (arith, a, b));
  has = pairs_step c.args.rows.now c.loop-row.row-index c.row-item.result c.loop-row.pairs c.add.new.self c.loop-row-test.true c.row-item.is c.loop-row.invariant.has c.in_ok-add.ensures;
}

pub returns : goal.returns
returns c =
    let past : length c.args.rows.now ≤ c.loop-row.row-index = omega (arith, c.loop-row-test.false) in
    (c.loop-row.invariant.known, subst (All (HasPair (pairs_in c.loop-row.pairs))) (take_all c.loop-row.row-index c.args.rows.now past) c.loop-row.invariant.has)
