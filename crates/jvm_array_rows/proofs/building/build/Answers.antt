use Rattle.std.proofs.Common.{◌≡◌, ◌∙◌, ◌++◌, ◌∷◌, [], ap, subst}
use Rattle.jvm_array_rows.specs.Grown.{IsBuilt}
use Rattle.jvm_array_rows.proofs.Finishing.{all_left, all_fit}
use Rattle.jvm_array_rows.proofs.building.build.Goals as goal

pub finish-requires-clause-room : goal.finish-requires-clause-room
finish-requires-clause-room c =
    let one : c.push.new.self.items ≡ 1 ∷ [] = c.in_ok-push.ensures.items ∙ ap (λ t. t ++ 1 ∷ []) c.in_ok-lefts.ensures.items in
    all_fit c.args.name.now c.args.counts.now c.push.new.self.items c.args.heap.now c.args.heap.now.limit one c.requires.there c.requires.room

pub returns : goal.returns
returns c =
    let one : c.push.new.self.items ≡ 1 ∷ [] = c.in_ok-push.ensures.items ∙ ap (λ t. t ++ 1 ∷ []) c.in_ok-lefts.ensures.items in
    subst (λ t. IsBuilt t c.args.heap.now c.finish.new.heap) (all_left c.args.name.now c.args.counts.now c.push.new.self.items c.args.heap.now one) c.in_ok-finish.ensures
