use Rattle.std.proofs.Common.{◌∙◌, sym, ap, Some}
use Rattle.std.specs.Option.{option_map}
use Rattle.std.specs.Arc.{arc_value}
use Rattle.std.proofs.lemmas.List.{map-set}
use Rattle.std.proofs.lemmas.Option.{slice_get-map, slice_get-get_or}
use Rattle.class_table.proofs.program.put.Goals as goal

pub returns-clause-program : goal.returns-clause-program
returns-clause-program c = rw c.replace.ensures.after (map-set (λ c. arc_value c) c.args.classes.now c.args.at c.args.with)

pub returns-clause-other : goal.returns-clause-other
returns-clause-other c =
    slice_get-map (λ c. arc_value c) c.args.classes.now c.args.at
    ∙ ap (option_map (λ c. arc_value c)) (slice_get-get_or c.args.classes.now c.args.at c.index-classes-at.result c.requires ∙ ap Some (sym c.replace.ensures.value))
