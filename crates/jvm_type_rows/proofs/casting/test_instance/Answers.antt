use Rattle.std.proofs.Common.{subst}
use Rattle.class_table.specs.Table.{look}
use Rattle.jvm_rows.specs.Effects.{Runs}
use Rattle.jvm_rows.specs.Rows.{putting}
use Rattle.jvm_rows.proofs.Ends.{along, no_row}
use Rattle.jvm_type_rows.specs.Instances.{TellsInstance, test_found_row, truth_value}
use Rattle.jvm_type_rows.proofs.Casts.{test_is, test_nothing}
use Rattle.jvm_type_rows.proofs.casting.test_instance.Goals as goal

pub returns-in-Some : goal.returns-in-Some
returns-in-Some c =
    let p = c.args.p.now in
    let w = c.args.world.now in
    let old = c.args.frames.now in
    let n = c.args.name.now in
    let x = c.args.object in
    let b = c.in-Some.of in
    along p (test_found_row (look p) n x) (putting 1 (truth_value b)) c.put_within.result old c.put_within.new.frames w w
    (test_is p old w n x b (subst (TellsInstance p w x n) c.in-Some.is c.in_ok-answer.ensures))
    (subst (λ v. Runs p (putting 1 v) c.put_within.result old c.put_within.new.frames w w) c.truth-value.ensures (c.put_within.ensures p w))

pub returns-in-None : goal.returns-in-None
returns-in-None c =
    let p = c.args.p.now in
    let w = c.args.world.now in
    let n = c.args.name.now in
    let x = c.args.object in
    no_row p (test_found_row (look p) n x) c.args.frames.now w
    (test_nothing p c.args.frames.now w n x (subst (TellsInstance p w x n) c.in-None.is c.in_ok-answer.ensures))
