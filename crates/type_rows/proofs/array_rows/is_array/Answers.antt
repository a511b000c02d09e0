use Rattle.std.proofs.Common.{◌≡◌, sym, ap, ◌∙◌}
use Rattle.type_rules.specs.Rows.{is_array_type}
use Rattle.vframes.specs.View.{type_of}
use Rattle.std.specs.Prelude.{nat_lt}
use Rattle.program_rules.specs.Names.{is_array_name}
use Rattle.type_rows.proofs.Settings.{array_by_dimensions}
use Rattle.type_rows.proofs.array_rows.is_array.Goals as goal

pub returns-in-Obj : goal.returns-in-Obj
returns-in-Obj c =
    ap (λ d. nat_lt 0 d) ((c.named_at.ensures.shaped c.args.site.now.program.now c.requires).dimensions)
    ∙ array_by_dimensions c.named_at.result.now.name ∙ ap is_array_name c.named_at.ensures.name
    ∙ ap (λ t. is_array_type (type_of c.args.site.now.names.now t)) (sym c.in-Obj.is)
