use Rattle.std.proofs.Common.{subst, sym}
use Rattle.class_table.specs.Table.{entries_at}
use Rattle.jvm_code.specs.Decoded.{named_by}
use Rattle.jvm_act.specs.Acts.{RunsWholeAs}
use Rattle.jvm_act.specs.Groups.{class_in}
use Rattle.jvm_act.proofs.Rows.{primitives}
use Rattle.jvm_act.proofs.classes.take_class.Goals as goal

pub returns-in_ok-done-in-Primitives-clause-row : goal.returns-in_ok-done-in-Primitives-clause-row
returns-in_ok-done-in-Primitives-clause-row c = λ ss.
    let p = c.args.p.now in
    let k = c.args.class.0 in
    let done = c.in_ok-done-in-Primitives.done in
    let old = c.args.frames.now in
    let new = c.make_primitives.new.frames in
    let w = c.args.world.now in
    let u = c.make_primitives.new.world in
    subst (λ o. RunsWholeAs p (class_in (named_by (entries_at p k) ss) o) done old new w u) (sym c.in-Primitives.is)
    (primitives p k c.in-Primitives.number ss done old new w u c.in_ok-done-in-Primitives.ensures.row)
