use Rattle.std.proofs.Common.{◌+◌, refl}
use Rattle.class_link.specs.View.{method_ref_of}
use Rattle.class_table.specs.Table.{look, name_at}
use Rattle.class_family.specs.Above.{is_above}
use Rattle.jvm_link.specs.Overriding.{opens}
use Rattle.jvm_link.proofs.Reaching.{opened_here, opened_passed, opened_nowhere, both_hold, first_fails, second_fails}
use Rattle.jvm_link.proofs.overriding.is_opened.Goals as goal
use Rattle.jvm_link.proofs.overriding.is_opened.Goals.{else-opens-via-then-opens+else-stands_above, else-opens-via-else-opens}

pub opens-requires-clause-class : goal.opens-requires-clause-class
opens-requires-clause-class c = c.requires.classes c.loop-at.at c.class_at-number.result c.class_at-number.ensures

pub returns-then-stands_above : goal.returns-then-stands_above
returns-then-stands_above c =
    let p = c.args.program.now in
    let r = method_ref_of c.args.reference.now in
    let other = c.class_at-number.result in
    opened_here p r c.args.over.0 c.args.classes.now c.args.class.0 c.loop-at.at other c.class_at-number.ensures
    (both_hold (opens (look p) r (name_at p c.args.over.0) (name_at p other)) (is_above (look p) (name_at p c.args.class.0) (name_at p other)) c.opens.result c.stands_above.result c.opens.ensures c.stands_above.ensures c.if-opens.true c.if-stands_above.true)
    c.loop-at.invariant

pub loop-at-preserved : goal.loop-at-preserved
loop-at-preserved c =
    let p = c.args.program.now in
    let r = method_ref_of c.args.reference.now in
    let other = c.class_at-number.result in
    elim c.else-opens.branch [
      | else-opens-via-then-opens+else-stands_above w ↦
          opened_passed p r c.args.over.0 c.args.classes.now c.args.class.0 c.loop-at.at (c.loop-at.at + 1) other refl c.class_at-number.ensures
          (second_fails (opens (look p) r (name_at p c.args.over.0) (name_at p other)) (is_above (look p) (name_at p c.args.class.0) (name_at p other)) w.stands_above.result w.stands_above.ensures w.if-stands_above.false)
          c.loop-at.invariant
      | else-opens-via-else-opens w ↦
          opened_passed p r c.args.over.0 c.args.classes.now c.args.class.0 c.loop-at.at (c.loop-at.at + 1) other refl c.class_at-number.ensures
          (first_fails (opens (look p) r (name_at p c.args.over.0) (name_at p other)) (is_above (look p) (name_at p c.args.class.0) (name_at p other)) c.opens.result c.opens.ensures w.if-opens.false)
          c.loop-at.invariant
    ]

pub returns : goal.returns
returns c = opened_nowhere c.args.program.now (method_ref_of c.args.reference.now) c.args.over.0 c.args.classes.now c.args.class.0 c.loop-at.at c.loop-at-test.false c.loop-at.invariant
