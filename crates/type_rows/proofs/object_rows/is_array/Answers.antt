use Rattle.std.proofs.Common.{◌≡◌, List, map, length, true, false, ◌∷◌, ◌++◌, ◌&&◌, refl, ap, sym, ◌∙◌}
use Rattle.std.specs.Prelude.{if◌then◌else◌}
use Rattle.program_rules.specs.Types as rules
use Rattle.type_rules.specs.References.{classes_of}
use Rattle.type_rules.specs.Assignability.{assignable}
use Rattle.type_rules.specs.Rows.{Setting, Checked, leads_all, Falls, Stops, Fails, row, gives, takes, returns as returns_of, leads, has_kind, is_reference_kind}
use Rattle.class_table.specs.Table.{look}
use Rattle.vframes.specs.View.{type_of, types_in}
use Rattle.vframes.specs.FrameView.{types_of}
use Rattle.type_rows.specs.Sites.{leads_in, IsSettingOf}
use Rattle.type_rules.specs.Frames.{type_of as type_of_kind}
use Rattle.type_rows.specs.Items.{is_plain}
use Rattle.std.specs.Prelude.{nat_lt}
use Rattle.program_rules.specs.Names.{is_array_name}
use Rattle.type_rows.proofs.Settings.{array_by_dimensions, leads_is, room_is, args_at, call_ends, ends_full, ends_plain}
use Rattle.type_rows.proofs.object_rows.is_array.Goals as goal

pub returns : goal.returns
returns c =
    let ns = c.args.site.now.names.now in
    ap (λ d. nat_lt 0 d) ((c.named_at.ensures.shaped c.args.site.now.program.now c.requires).dimensions) ∙ array_by_dimensions c.named_at.result.now.name ∙ ap is_array_name c.named_at.ensures.name
