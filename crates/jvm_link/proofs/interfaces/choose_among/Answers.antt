use Rattle.std.proofs.Common.{List, ℕ, subst}
use Rattle.jvm_link.specs.Candidates.{IsChoice, IsChoiceOf}
use Rattle.jvm_link.proofs.interfaces.choose_among.Goals as goal

pub returns : goal.returns
returns c =
    let p = c.args.program.now in
    let made = subst (λ (l : List ℕ). IsChoiceOf p c.args.name.now c.args.desc.now l c.in_ok-choice.choice) c.as_slice.ensures.value c.in_ok-choice.ensures in
    subst (λ cs. IsChoice p cs c.in_ok-choice.choice) c.in_ok-find_giving.ensures.all made
