use Rattle.std.proofs.Common.{◌≡◌, ◌∷◌, ◌++◌, ◌&&◌, refl, ap, sym, ◌∙◌}
use Rattle.std.specs.Prelude.{if◌then◌else◌}
use Rattle.program_rules.specs.Types as rules
use Rattle.type_rules.specs.References.{classes_of, dimensions}
use Rattle.std.specs.Prelude.{nat_le, nat_lt}
use Rattle.type_rules.specs.Assignability.{height}
use Rattle.type_rules.specs.Assignability.{assignable}
use Rattle.type_rules.specs.Rows.{Falls, Stops, Fails, row, gives, takes_such, is_array_of, has_room, allows, falls, takes, returns as returns_of, leads, has_kind, is_reference_kind}
use Rattle.class_table.specs.Table.{look}
use Rattle.vframes.specs.View.{type_of, types_in}
use Rattle.vframes.specs.FrameView.{types_of}
use Rattle.type_rows.specs.Sites.{leads_in}
use Rattle.type_rules.specs.Frames.{type_of as type_of_kind}
use Rattle.type_rows.specs.Items.{is_plain}
use Rattle.type_rows.proofs.Settings.{leads_is, room_is, args_at, call_ends, ends_full, ends_plain}
use Rattle.type_rows.proofs.array_rows.array_load.Goals as goal

pub returns-then-not-take_int : goal.returns-then-not-take_int
unfolding row
returns-then-not-take_int c s at x =
    let ns = c.args.site.now.names.now in
    c.if-not-take_int.ensures.no refl ns _

pub returns-in_default : goal.returns-in_default
unfolding row
returns-in_default c s at x =
    let ns = c.args.site.now.names.now in
    c.if-not-take_int.ensures.yes refl ns _ ∙ c.in_default.ensures.none _

pub element_of-requires-clause-array : goal.element_of-requires-clause-array
unfolding row
element_of-requires-clause-array c =
    let ns = c.args.site.now.names.now in
    c.in-Some.ensures.some.0

pub returns : goal.returns
unfolding row
returns c s at x =
    let ns = c.args.site.now.names.now in
    c.if-not-take_int.ensures.yes refl ns _ ∙ c.in-Some.ensures.some.1 _
    ∙ ap (λ u. gives s (types_of ns c.args.f.now) (u ∷ types_in ns c.take_array.new.stack)) (sym c.element_of.ensures)
    ∙ ap (λ l. gives s (types_of ns c.args.f.now) (types_in ns l)) (sym c.in_ok-push.ensures)
    ∙ c.give.ensures ns s (room_is s c.args.site.now x)
