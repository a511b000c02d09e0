use Rattle.std.proofs.Common.{◌≡◌, ◌∙◌, sym, ap, refl, take, map, length}
use Rattle.std.specs.Arc.{arc_value}
use Rattle.std.proofs.lemmas.Option.{slice_get_read}
use Rattle.program_rules.specs.Names.{same}
use Rattle.class_table.specs.Table.{number_of}
use Rattle.class_table.specs.Numbers.{with_number}
use Rattle.class_table.proofs.Duplicates.{number_next}
use Rattle.class_table.proofs.numbering.numbers.Goals as goal

pub loop-i-preserved : goal.loop-i-preserved
loop-i-preserved c = λ n.
    let there = slice_get_read c.args.infos.now (length c.args.infos.now) c.loop-i.i c.index-infos-i.result refl c.loop-i-test.true c.index-infos-i.is in
    let named : c.name.result.now ≡ (arc_value c.index-infos-i.result).name = c.name.ensures.value ∙ ap (λ v. v.name) c.deref.ensures in
    c.in_ok-add_name.ensures n
    ∙ ap (λ m. with_number m (same c.name.result.now n) c.loop-i.i) (c.loop-i.invariant n)
    ∙ ap (λ m. with_number (number_of (map (λ i. arc_value i) (take c.loop-i.i c.args.infos.now)) n) (same m n) c.loop-i.i) named
    ∙ sym (number_next (λ i. arc_value i) c.args.infos.now c.loop-i.i c.index-infos-i.result n there)
