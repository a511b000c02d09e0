use Rattle.std.proofs.Common.{subst}
use Rattle.program_rules.specs.Resolution.{candidates, search_interfaces}
use Rattle.class_link.specs.View.{method_ref_of}
use Rattle.jvm_link.specs.Sites.{FirstDeclared}
use Rattle.jvm_link.specs.Candidates.{family_at}
use Rattle.jvm_link.specs.Answers.{AnswersCall}
use Rattle.jvm_link.proofs.Resolving.{searched_here, searched_above}
use Rattle.jvm_link.proofs.resolve.search_method.Goals as goal

pub returns-in-Some : goal.returns-in-Some
returns-in-Some c =
    let p = c.args.program.now in
    let r = method_ref_of c.args.reference.now in
    let start = c.lowest-start.result.0 in
    let named = subst (λ n. FirstDeclared p start n c.deref-2.result.now c.first_declared.result) c.deref.ensures c.first_declared.ensures in
    let both = subst (λ d. FirstDeclared p start r.name d c.first_declared.result) c.deref-2.ensures named in
    searched_here p c.args.id.0 r c.args.array start _ c.lowest-start.ensures.rising (subst (FirstDeclared p start r.name r.desc) c.in-Some.is both)

pub returns : goal.returns
returns c =
    let p = c.args.program.now in
    let r = method_ref_of c.args.reference.now in
    let start = c.lowest-start.result.0 in
    let named = subst (λ n. FirstDeclared p start n c.deref-2.result.now c.first_declared.result) c.deref.ensures c.first_declared.ensures in
    let both = subst (λ d. FirstDeclared p start r.name d c.first_declared.result) c.deref-2.ensures named in
    let none = subst (FirstDeclared p start r.name r.desc) c.in_default.is both in
    let above = c.by_choice.ensures p _ c.in_ok-choice.ensures in
    let above-named = subst (λ n. AnswersCall p (search_interfaces (candidates n c.deref-4.result.now (family_at p c.args.id.0 c.args.array).searching)) c.by_choice.result) c.deref-3.ensures above in
    let above-both = subst (λ d. AnswersCall p (search_interfaces (candidates r.name d (family_at p c.args.id.0 c.args.array).searching)) c.by_choice.result) c.deref-4.ensures above-named in
    searched_above p c.args.id.0 r c.args.array start c.by_choice.result c.lowest-start.ensures.rising none above-both
