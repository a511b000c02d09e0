use Rattle.std.proofs.Common.{◌≡◌, List, map, length, true, false, ◌∷◌, ◌++◌, ◌&&◌, refl, ap, sym, ◌∙◌}
use Rattle.std.specs.Prelude.{if◌then◌else◌}
use Rattle.program_rules.specs.Types as rules
use Rattle.type_rules.specs.References.{classes_of, array_name}
use Rattle.type_rules.specs.Assignability.{assignable}
use Rattle.type_rules.specs.Rows.{Setting, Checked, leads_all, Falls, Stops, Fails, row, gives, takes, returns as returns_of, leads, has_kind, is_reference_kind, takes_such, is_array_type}
use Rattle.class_table.specs.Table.{look}
use Rattle.vframes.specs.View.{type_of, types_in}
use Rattle.vframes.specs.FrameView.{types_of}
use Rattle.type_rows.specs.Sites.{leads_in, IsSettingOf}
use Rattle.type_rules.specs.Frames.{type_of as type_of_kind}
use Rattle.type_rows.specs.Items.{is_plain}
use Rattle.type_rows.proofs.Settings.{leads_is, room_is, args_at, call_ends, ends_full, ends_plain}
use Rattle.type_rows.proofs.array_rows.array_length.Goals as goal

pub returns-in_default : goal.returns-in_default
unfolding row
returns-in_default c s at x =
    let ns = c.args.site.now.names.now in
    ap (λ l. takes_such is_array_type (types_in ns l) (λ t rest. gives s (types_of ns c.args.f.now) (rules.IntType ∷ rest))) c.in_default.ensures.none

pub returns-then-not-is_array : goal.returns-then-not-is_array
unfolding row
returns-then-not-is_array c s at x =
    let ns = c.args.site.now.names.now in
    ap (λ l. takes_such is_array_type (types_in ns l) (λ t rest. gives s (types_of ns c.args.f.now) (rules.IntType ∷ rest))) c.in-Some.ensures.some ∙ ap (λ b. if b then gives s (types_of ns c.args.f.now) (rules.IntType ∷ (types_in ns c.pop.new.self)) else Fails 7) (sym c.if-not-is_array.ensures)

pub returns : goal.returns
unfolding row
returns c s at x =
    let ns = c.args.site.now.names.now in
    ap (λ l. takes_such is_array_type (types_in ns l) (λ t rest. gives s (types_of ns c.args.f.now) (rules.IntType ∷ rest))) c.in-Some.ensures.some ∙ ap (λ b. if b then gives s (types_of ns c.args.f.now) (rules.IntType ∷ (types_in ns c.pop.new.self)) else Fails 7) (sym c.if-not-is_array.ensures) ∙ ap (λ l. gives s (types_of ns c.args.f.now) (types_in ns l)) (sym c.in_ok-push.ensures) ∙ c.give.ensures ns s (room_is s c.args.site.now x)
