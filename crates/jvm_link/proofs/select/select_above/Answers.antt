use Rattle.std.proofs.Common.{subst}
use Rattle.program_rules.specs.Resolution.{candidates, most_specific_concrete}
use Rattle.program_rules.specs.Selection.{the_one}
use Rattle.class_link.specs.View.{method_ref_of}
use Rattle.jvm_link.specs.Candidates.{family_at}
use Rattle.jvm_link.specs.Answers.{AnswersCall}
use Rattle.jvm_link.proofs.select.select_above.Goals as goal

pub returns : goal.returns
returns c =
    let p = c.args.program.now in
    let r = method_ref_of c.args.reference.now in
    let above = c.the_one.ensures p _ c.in_ok-choice.ensures.specific in
    let named = subst (λ n. AnswersCall p (the_one (most_specific_concrete (candidates n c.deref-2.result.now (family_at p c.args.id.0 c.args.array).searching))) c.the_one.result) c.deref.ensures above in
    subst (λ d. AnswersCall p (the_one (most_specific_concrete (candidates r.name d (family_at p c.args.id.0 c.args.array).searching))) c.the_one.result) c.deref-2.ensures named
