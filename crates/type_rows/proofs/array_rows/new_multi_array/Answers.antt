use Rattle.std.proofs.Common.{◌≡◌, ◌+◌, ◌≤◌, ◌-◌, List, map, length, true, false, ◌∷◌, ◌++◌, ◌&&◌, ◌||◌, refl, ap, sym, subst, ◌∙◌, arith, Option, Some, None}
use Rattle.std.specs.Prelude.{if◌then◌else◌, nat_le, nat_lt, slice_get}
use Rattle.std.specs.Option.{option_map}
use Rattle.program_rules.specs.Names.{same, instance_initializer}
use Rattle.program_rules.specs.Types as rules
use Rattle.type_rules.specs.References.{classes_of, dimensions}
use Rattle.type_rules.specs.Assignability.{assignable, height}
use Rattle.type_rules.specs.Rows.{Setting, Checked, leads_all, Falls, Stops, Fails, row, gives, takes, takes_such, takes_ints, falls, has_room, allows, declares, is_owner, is_parent, is_any_reference, may_name, plainly_named, initialise, initialises_new, replace_type, with_result}
use Rattle.class_table.specs.Table.{look}
use Rattle.vframes.specs.Named.{name_at}
use Rattle.vframes.specs.View.{type_of, types_in}
use Rattle.vframes.specs.FrameView.{types_of}
use Rattle.type_rules.specs.Frames.{type_of as type_of_kind, new_at, new_of}
use Rattle.type_rows.specs.Items.{is_plain, is_init}
use Rattle.type_rows.specs.Sites.{IsSettingOf, made_in}
use Rattle.type_rows.proofs.Settings.{leads_is, room_is, args_at, room_lacks, room_serves}
use Rattle.type_rows.proofs.Homes.{at_home, owner_this, owner_other}
use Rattle.type_rows.proofs.array_rows.new_multi_array.Goals as goal

pub returns-then-not-take_ints : goal.returns-then-not-take_ints
unfolding row
returns-then-not-take_ints c s at x =
    let ns = c.args.site.now.names.now in
    c.if-not-take_ints.ensures.no refl ns _

pub returns-then-not-fits : goal.returns-then-not-fits
unfolding row
returns-then-not-fits c s at x =
    let ns = c.args.site.now.names.now in
    c.if-not-take_ints.ensures.yes refl ns _
    ∙ ap (λ l. has_room s (types_in ns l) (allows (nat_lt 0 c.args.count && nat_le c.args.count (dimensions (name_at ns c.args.array))) (falls (types_of ns c.args.f.now) (types_in ns l)))) (sym c.in_ok-push.ensures)
    ∙ ap (λ b. if b then (allows (nat_lt 0 c.args.count && nat_le c.args.count (dimensions (name_at ns c.args.array))) (falls (types_of ns c.args.f.now) (types_in ns c.push.new.self))) else Fails 8) (ap (nat_le (height (types_in ns c.push.new.self))) (room_is s c.args.site.now x) ∙ sym (c.if-not-fits.ensures ns))

pub returns-then-has_dimensions : goal.returns-then-has_dimensions
unfolding row
returns-then-has_dimensions c s at x =
    let ns = c.args.site.now.names.now in
    c.if-not-take_ints.ensures.yes refl ns _
    ∙ ap (λ l. has_room s (types_in ns l) (allows (nat_lt 0 c.args.count && nat_le c.args.count (dimensions (name_at ns c.args.array))) (falls (types_of ns c.args.f.now) (types_in ns l)))) (sym c.in_ok-push.ensures)
    ∙ ap (λ b. if b then (allows (nat_lt 0 c.args.count && nat_le c.args.count (dimensions (name_at ns c.args.array))) (falls (types_of ns c.args.f.now) (types_in ns c.push.new.self))) else Fails 8) (ap (nat_le (height (types_in ns c.push.new.self))) (room_is s c.args.site.now x) ∙ sym (c.if-not-fits.ensures ns))
    ∙ ap (λ b. allows b (falls (types_of ns c.args.f.now) (types_in ns c.push.new.self))) (sym c.if-has_dimensions.ensures)

pub returns-else-has_dimensions : goal.returns-else-has_dimensions
unfolding row
returns-else-has_dimensions c s at x =
    let ns = c.args.site.now.names.now in
    c.if-not-take_ints.ensures.yes refl ns _
    ∙ ap (λ l. has_room s (types_in ns l) (allows (nat_lt 0 c.args.count && nat_le c.args.count (dimensions (name_at ns c.args.array))) (falls (types_of ns c.args.f.now) (types_in ns l)))) (sym c.in_ok-push.ensures)
    ∙ ap (λ b. if b then (allows (nat_lt 0 c.args.count && nat_le c.args.count (dimensions (name_at ns c.args.array))) (falls (types_of ns c.args.f.now) (types_in ns c.push.new.self))) else Fails 8) (ap (nat_le (height (types_in ns c.push.new.self))) (room_is s c.args.site.now x) ∙ sym (c.if-not-fits.ensures ns))
    ∙ ap (λ b. allows b (falls (types_of ns c.args.f.now) (types_in ns c.push.new.self))) (sym c.if-has_dimensions.ensures)
