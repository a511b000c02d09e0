use Rattle.std.proofs.Common.{◌≤◌, length, arith}
use Rattle.class_order.proofs.Searching.{closes_none, closes_next, closes_end, found_within}
use Rattle.class_order.proofs.search.close.Goals as goal

pub loop-at-init : goal.loop-at-init
loop-at-init c = record {
  from = omega arith;
  closes = closes_none c.args.links.now c.args.stamp c.args.from c.args.search.now c.requires.search;
}

pub note_supers-requires-clause-class : goal.note_supers-requires-clause-class
note_supers-requires-clause-class c = found_within (length c.args.links.now) c.args.stamp c.loop-at.at c.class_at-class.result c.loop-at.search c.loop-at.invariant.closes.search c.class_at-class.ensures

pub loop-at-preserved : goal.loop-at-preserved
loop-at-preserved c =
    let from = c.loop-at.invariant.from in
    record {
      from = omega (arith, from);
      closes = closes_next c.args.links.now c.args.stamp c.args.from c.loop-at.at c.class_at-class.result c.args.search.now c.loop-at.search c.note_supers.new.search c.loop-at.invariant.from c.class_at-class.ensures c.loop-at.invariant.closes c.in_ok-note_supers.ensures;
    }

pub returns : goal.returns
returns c =
    let test = c.loop-at-test.false in
    let len = c.len.ensures in
    let le : length c.loop-at.search.found.items ≤ c.loop-at.at = grind (arith, test, len) in
    closes_end c.args.links.now c.args.stamp c.args.from c.loop-at.at c.args.search.now c.loop-at.search le c.loop-at.invariant.closes
