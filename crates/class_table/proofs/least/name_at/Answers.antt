use Rattle.std.proofs.Common.{◌∙◌, sym, ap, refl, length, Some}
use Rattle.std.specs.Arc.{arc_value}
use Rattle.std.proofs.lemmas.Option.{slice_get_read}
use Rattle.class_table.proofs.Leasts.{name_here}
use Rattle.class_table.proofs.least.name_at.Goals as goal

pub returns : goal.returns
returns c =
    let there = slice_get_read c.args.infos.now (length c.args.infos.now) c.args.at c.index-infos-at.result refl c.requires c.index-infos-at.is in
    name_here (λ i. arc_value i) c.args.infos.now c.args.at c.index-infos-at.result there ∙ ap Some (sym (c.in_ok-copy.ensures ∙ c.name.ensures.value ∙ ap (λ v. v.name) c.deref.ensures))
