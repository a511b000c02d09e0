use Rattle.std.proofs.Common.{List, ℕ, sym, subst}
use Rattle.jvm_link.specs.Candidates.{IsChoice, IsChoiceOf}
use Rattle.jvm_link.proofs.Searched.{candidates_searched}
use Rattle.jvm_link.proofs.interfaces.Search.choose.Goals as goal

pub returns : goal.returns
returns c =
    let p = c.args.program.now in
    let made = subst (λ (l : List ℕ). IsChoiceOf p c.args.name.now c.args.desc.now l c.in_ok-choice.choice) c.classes.ensures c.in_ok-choice.ensures in
    subst (λ cs. IsChoice p cs c.in_ok-choice.choice) (sym (candidates_searched p c.args.name.now c.args.desc.now c.args.id.0 c.args.array c.args.self.now.family c.len-len.ensures.form c.requires.found)) made
