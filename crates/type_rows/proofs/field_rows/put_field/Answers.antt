use Rattle.std.proofs.Common.{◌≡◌, ◌+◌, ◌≤◌, ◌-◌, List, map, length, true, false, ◌∷◌, ◌++◌, ◌&&◌, ◌||◌, refl, ap, sym, subst, ◌∙◌, arith, Option, Some, None}
use Rattle.std.specs.Prelude.{if◌then◌else◌, nat_le, nat_lt, slice_get}
use Rattle.std.specs.Option.{option_map}
use Rattle.program_rules.specs.Names.{same, instance_initializer}
use Rattle.program_rules.specs.Types as rules
use Rattle.type_rules.specs.References.{classes_of, dimensions}
use Rattle.type_rules.specs.Assignability.{assignable, height}
use Rattle.type_rules.specs.Rows.{Setting, Checked, leads_all, Falls, Stops, Fails, row, gives, takes, takes_such, takes_ints, falls, has_room, allows, declares, is_owner, is_parent, is_any_reference, may_name, plainly_named, initialise, initialises_new, replace_type, with_result}
use Rattle.class_table.specs.Table.{look}
use Rattle.vframes.specs.Named.{name_at}
use Rattle.vframes.specs.View.{type_of, types_in}
use Rattle.vframes.specs.FrameView.{types_of}
use Rattle.type_rules.specs.Frames.{type_of as type_of_kind, new_at, new_of}
use Rattle.type_rows.specs.Items.{is_plain, is_init}
use Rattle.type_rows.specs.Sites.{IsSettingOf, made_in}
use Rattle.type_rows.proofs.Settings.{leads_is, room_is, args_at, room_lacks, room_serves}
use Rattle.type_rows.proofs.Homes.{at_home, owner_this, owner_other}
use Rattle.type_rows.proofs.field_rows.put_field.Goals as goal

pub returns-then-not-take_assignable : goal.returns-then-not-take_assignable
unfolding row
returns-then-not-take_assignable c s at r x k =
    let ns = c.args.site.now.names.now in
    ap (λ u. takes s u (types_in ns c.args.f.now.stack) (λ below. takes_such (is_owner s r) below (λ t rest. falls (types_of ns c.args.f.now) rest))) (sym k.type)
    ∙ c.if-not-take_assignable.ensures.no refl s x _

pub returns-then-not-take_owner : goal.returns-then-not-take_owner
unfolding row
returns-then-not-take_owner c s at r x k =
    let ns = c.args.site.now.names.now in
    ap (λ u. takes s u (types_in ns c.args.f.now.stack) (λ below. takes_such (is_owner s r) below (λ t rest. falls (types_of ns c.args.f.now) rest))) (sym k.type)
    ∙ c.if-not-take_assignable.ensures.yes refl s x _ ∙ c.if-not-take_owner.ensures.no refl s r x k _

pub returns : goal.returns
unfolding row
returns c s at r x k =
    let ns = c.args.site.now.names.now in
    ap (λ u. takes s u (types_in ns c.args.f.now.stack) (λ below. takes_such (is_owner s r) below (λ t rest. falls (types_of ns c.args.f.now) rest))) (sym k.type)
    ∙ c.if-not-take_assignable.ensures.yes refl s x _ ∙ c.if-not-take_owner.ensures.yes refl s r x k _
