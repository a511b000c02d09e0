use Rattle.std.proofs.Common.{◌≡◌, ◌∷◌, List, Option, Some, None, refl, ap, sym, ◌∙◌}
use Rattle.std.specs.Prelude.{nat_lt, slice_get}
use Rattle.program_rules.specs.Instructions as def
use Rattle.program_rules.specs.Types as rules
use Rattle.type_rules.specs.References.{dimensions}
use Rattle.type_rules.specs.Rows.{row, gives}
use Rattle.class_link.specs.Opcodes.{on_text, on_class, on_field, on_method}
use Rattle.class_link.specs.View.{instruction_of, table_of, lookup_of}
use Rattle.vframes.specs.Named.{name_at}
use Rattle.vframes.specs.FrameView.{types_of}
use Rattle.vframes.specs.View.{types_in}
use Rattle.type_rows.proofs.Settings.{room_is}
use Rattle.type_rows.proofs.by_index.text_constant.Goals as goal

pub returns-then-not-is_text_at : goal.returns-then-not-is_text_at
unfolding row instruction_of
returns-then-not-is_text_at c s x =
    let ns = c.args.site.now.names.now in
    ap (λ i. row s c.args.at i (types_of ns c.args.f.now)) (c.if-not-is_text_at.ensures.no refl (def.TextConstant))

pub returns : goal.returns
unfolding row instruction_of
returns c s x =
    let ns = c.args.site.now.names.now in
    ap (λ m. row s c.args.at (on_text (def.TextConstant) m) (types_of ns c.args.f.now)) (c.if-not-is_text_at.ensures.yes refl).is
    ∙ ap (λ n. gives s (types_of ns c.args.f.now) (rules.Obj n ∷ types_in ns c.args.f.now.stack)) (sym c.requires.common.string)
    ∙ c.in_ok-give_type.ensures ns s (room_is s c.args.site.now x)
