use Rattle.std.proofs.Common.{take, subst}
use Rattle.program_rules.specs.Resolution.{first_declared, found_or_none}
use Rattle.class_family.specs.Families.{rising_at}
use Rattle.class_link.specs.View.{method_ref_of}
use Rattle.jvm_link.specs.Answers.{AnswersCall}
use Rattle.jvm_link.proofs.Resolving.{initializer_class}
use Rattle.jvm_link.proofs.resolve.own_initializer.Goals as goal

pub returns : goal.returns
returns c =
    let p = c.args.program.now in
    let r = method_ref_of c.args.reference.now in
    let up = take 1 (rising_at p c.args.id.0) in
    let found = c.found_or_none.ensures p _ c.own_method.ensures in
    let named = subst (λ n. AnswersCall p (found_or_none (first_declared n c.deref-2.result.now up)) c.found_or_none.result) c.deref.ensures found in
    let both = subst (λ d. AnswersCall p (found_or_none (first_declared r.name d up)) c.found_or_none.result) c.deref-2.ensures named in
    initializer_class p c.args.id.0 r c.args.array c.found_or_none.result c.requires.array c.if-array.false both
