use Rattle.std.proofs.Common.{sym, subst}
use Rattle.program_rules.specs.Objects.{class_of_object}
use Rattle.program_rules.specs.Selection.{select_named}
use Rattle.machine_rules.specs.Lookups.{is_array}
use Rattle.class_link.specs.View.{method_ref_of}
use Rattle.class_table.specs.Table.{look}
use Rattle.jvm_link.specs.Answers.{AnswersCall}
use Rattle.jvm_receivers.specs.Objects.{FindsReceiver}
use Rattle.jvm_receivers.proofs.Absent.{same_methods, named_absent}
use Rattle.jvm_receivers.proofs.interfaces.select_of.Goals as goal

pub returns-in_ok-answer-in-Some-clause-answer : goal.returns-in_ok-answer-in-Some-clause-answer
returns-in_ok-answer-in-Some-clause-answer c = λ k at.
    let p = c.args.p.now in
    let r = method_ref_of c.args.reference.now in
    let a = c.in_ok-answer-in-Some.answer in
    subst (λ family. AnswersCall p (select_named r family) a) (sym (same_methods p k c.in-Some.receiver (subst (FindsReceiver p k) c.in-Some.is at)))
    c.in_ok-answer-in-Some.ensures.answer

pub returns-in-None-clause-answer : goal.returns-in-None-clause-answer
returns-in-None-clause-answer c = λ k at.
    let p = c.args.p.now in
    let r = method_ref_of c.args.reference.now in
    named_absent (look p) (class_of_object k) r (is_array k) (subst (FindsReceiver p k) c.in-None.is at)
