use Rattle.std.proofs.Common.{◌≡◌, ◌∷◌, List, Option, Some, None, refl, ap, sym, ◌∙◌}
use Rattle.std.specs.Prelude.{nat_lt, slice_get}
use Rattle.program_rules.specs.Instructions as def
use Rattle.program_rules.specs.Types as rules
use Rattle.type_rules.specs.References.{dimensions}
use Rattle.type_rules.specs.Rows.{row, gives}
use Rattle.class_link.specs.Opcodes.{on_text, on_class, on_field, on_method}
use Rattle.class_link.specs.View.{instruction_of, table_of, lookup_of}
use Rattle.vframes.specs.Named.{name_at}
use Rattle.vframes.specs.FrameView.{types_of}
use Rattle.vframes.specs.View.{types_in}
use Rattle.type_rows.proofs.Settings.{room_is}
use Rattle.type_rows.proofs.by_index.read_static.Goals as goal

pub returns-in_default : goal.returns-in_default
unfolding row instruction_of
returns-in_default c s x =
    let ns = c.args.site.now.names.now in
    ap (λ i. row s c.args.at i (types_of ns c.args.f.now)) (c.in_default.ensures.none (def.GetStatic))

pub returns : goal.returns
unfolding instruction_of
returns c s x =
    let ns = c.args.site.now.names.now in
    ap (λ m. row s c.args.at (on_field (def.GetStatic) m) (types_of ns c.args.f.now)) c.in-Some.ensures.some.is
    ∙ c.in_ok-get_static.ensures s c.args.at c.in-Some.ensures.some.field x c.in-Some.ensures.some.has.type
