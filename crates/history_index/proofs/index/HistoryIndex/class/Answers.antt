use Rattle.std.proofs.Common.{◌≡◌, ◌∙◌, Some, arith, sym}
use Rattle.program_rules.specs.Names.{same}
use Rattle.history_index.specs.Numbers.{number_in}
use Rattle.history_index.proofs.Positions.{position_within}
use Rattle.history_index.proofs.index.HistoryIndex.class.Goals as goal

pub overflow_add-result : goal.overflow_add-result
overflow_add-result c =
    let classes = c.self.inside.history.classes in
    let at : number_in classes c.args.bytes.now ≡ Some c.in_ok-before.before = sym (c.get.ensures classes c.self.invariant.2) ∙ c.in_ok-before.was in
    let lt = position_within (λ s. same s c.args.bytes.now) c.in_ok-before.before classes at in
    let few = c.self.invariant.0.history.few_classes in
    omega (arith, lt, few)
