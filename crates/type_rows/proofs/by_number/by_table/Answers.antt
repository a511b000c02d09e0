use Rattle.std.proofs.Common.{◌≡◌, ◌∷◌, List, Option, Some, None, refl, ap, sym, ◌∙◌}
use Rattle.std.specs.Prelude.{nat_lt, slice_get}
use Rattle.program_rules.specs.Instructions as def
use Rattle.program_rules.specs.Types as rules
use Rattle.type_rules.specs.References.{dimensions}
use Rattle.type_rules.specs.Rows.{row, gives}
use Rattle.class_link.specs.Opcodes.{on_text, on_class, on_field, on_method}
use Rattle.class_link.specs.View.{instruction_of, table_of, lookup_of}
use Rattle.vframes.specs.Named.{name_at}
use Rattle.vframes.specs.FrameView.{types_of}
use Rattle.vframes.specs.View.{types_in}
use Rattle.type_rows.proofs.Switched.{targets_moved}
use Rattle.type_rows.proofs.by_number.by_table.Goals as goal

pub returns-in_default : goal.returns-in_default
unfolding row instruction_of
returns-in_default c s x =
    let ns = c.args.site.now.names.now in
    ap (λ o. row s c.args.at (table_of o) (types_of ns c.args.f.now)) (sym c.in_default.ensures)

pub returns-in-Table : goal.returns-in-Table
unfolding instruction_of
returns-in-Table c s x =
    let ns = c.args.site.now.names.now in
    ap (λ o. row s c.args.at (table_of o) (types_of ns c.args.f.now)) (sym c.in-Some.ensures ∙ ap Some c.in-Table.is)
    ∙ targets_moved s c.args.at _ _ (types_of ns c.args.f.now) _ _ (sym c.as_slice.ensures)
    ∙ c.table_switch.ensures _ s c.args.at x

pub returns-in-Lookup : goal.returns-in-Lookup
unfolding row instruction_of
returns-in-Lookup c s x =
    let ns = c.args.site.now.names.now in
    ap (λ o. row s c.args.at (table_of o) (types_of ns c.args.f.now)) (sym c.in-Some.ensures ∙ ap Some c.in-Lookup.is)
