use Rattle.std.proofs.Common.{◌≡◌, ◌≤◌, ◌<◌, ◌∙◌, ◌+◌, ◌-◌, ap, arith, take, drop, length, get_or}
use Rattle.std.proofs.lemmas.List.{length-drop, length-take-le}
use Rattle.jvm_array_rows.specs.Built.{component_of}
use Rattle.jvm_array_rows.specs.Grown.{with_whole}
use Rattle.jvm_array_rows.proofs.Growing.{references_length}
use Rattle.jvm_array_rows.proofs.Sums.{components_fit, each_is, first_words, not_none}
use Rattle.jvm_array_rows.proofs.Finishing.{begun_whole}
use Rattle.jvm_array_rows.proofs.building.begin.Goals as goal

pub references-requires : goal.references-requires
references-requires c =
    let ns = c.args.counts.now in
    let h = c.args.heap.now in
    let few : length h.objects ≤ h.used = omega (arith, c.count-first.ensures.count, c.count-first.ensures.few) in
    let some : 0 < get_or ns 0 0 = omega (arith, c.if-count-eq0.false) in
    let fit = components_fit ns c.args.each (length h.objects) h.used h.limit c.requires.there some c.requires.each few c.requires.room c.requires.small in
    omega (arith, fit, c.count-first.ensures.count)

pub add_array-requires-2 : goal.add_array-requires-2
add_array-requires-2 c =
    let ns = c.args.counts.now in
    let len = ap length c.in_ok-values.ensures ∙ references_length (c.count-first.result + 2) c.args.each (get_or ns 0 0) in
    let words = first_words ns c.requires.there in
    omega (arith, len, words, c.requires.room)

pub returns : goal.returns
returns c =
    let ns = c.args.counts.now in
    let h = c.args.heap.now in
    let some : 0 < get_or ns 0 0 = omega (arith, c.if-count-eq0.false) in
    let each = each_is ns c.args.each h.used h.limit c.requires.there some c.requires.each c.requires.room c.requires.small in
    let count = length-drop 1 ns in
    let part : length (take (length ns - 1) (drop 1 ns)) ≡ length ns - 1 = length-take-le (length ns - 1) (drop 1 ns) (omega (arith, count)) in
    let one = not_none (length (take (length ns - 1) (drop 1 ns))) c.is_empty.result c.is_empty.ensures c.if-is_empty.false in
    let inner : 1 ≤ length (drop 1 ns) = omega (arith, count, part, one) in
    c.in_ok-add_array.ensures
    ∙ ap (λ k. with_whole k c.in_ok-values.values h) c.in_ok-kind.ensures
    ∙ ap (λ t. with_whole (component_of c.args.name.now) t h) c.in_ok-values.ensures
    ∙ begun_whole c.args.name.now ns c.args.each (c.count-first.result + 2) h inner each (omega (arith, c.count-first.ensures.count))
