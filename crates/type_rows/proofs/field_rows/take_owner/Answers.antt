use Rattle.std.proofs.Common.{◌≡◌, ◌+◌, ◌≤◌, ◌-◌, List, map, length, true, false, ◌∷◌, ◌++◌, ◌&&◌, ◌||◌, refl, ap, sym, subst, ◌∙◌, arith, Option, Some, None}
use Rattle.std.specs.Prelude.{if◌then◌else◌, nat_le, nat_lt, slice_get}
use Rattle.std.specs.Option.{option_map}
use Rattle.program_rules.specs.Names.{same, instance_initializer}
use Rattle.program_rules.specs.Types as rules
use Rattle.type_rules.specs.References.{classes_of, dimensions}
use Rattle.type_rules.specs.Assignability.{assignable, height}
use Rattle.type_rules.specs.Rows.{Setting, Checked, leads_all, Falls, Stops, Fails, row, gives, takes, takes_such, takes_ints, falls, has_room, allows, declares, is_owner, is_parent, is_any_reference, may_name, plainly_named, initialise, initialises_new, replace_type, with_result}
use Rattle.class_table.specs.Table.{look}
use Rattle.vframes.specs.Named.{name_at}
use Rattle.vframes.specs.View.{type_of, types_in}
use Rattle.vframes.specs.FrameView.{types_of}
use Rattle.type_rules.specs.Frames.{type_of as type_of_kind, new_at, new_of}
use Rattle.type_rows.specs.Items.{is_plain, is_init}
use Rattle.type_rows.specs.Sites.{IsSettingOf, made_in}
use Rattle.type_rows.proofs.Settings.{leads_is, room_is, args_at, room_lacks, room_serves}
use Rattle.type_rows.proofs.Homes.{at_home, owner_this, owner_other}
use Rattle.type_rows.proofs.field_rows.take_owner.Goals as goal

pub returns-in_default-clause-no : goal.returns-in_default-clause-no
returns-in_default-clause-no c r s f x k go =
    let ns = c.args.site.now.names.now in
    ap (λ l. takes_such (is_owner s f) (types_in ns l) (λ t rest. go rest)) c.in_default.ensures.none

pub returns-clause-yes : goal.returns-clause-yes
returns-clause-yes c r s f x k go =
    let ns = c.args.site.now.names.now in
    ap (λ l. takes_such (is_owner s f) (types_in ns l) (λ t rest. go rest)) c.in-Some.ensures.some
    ∙ ap (λ b. if b then go (types_in ns c.pop.new.self) else Fails 7) (sym (c.is_owner.ensures s f x k) ∙ r)

pub returns-clause-no : goal.returns-clause-no
returns-clause-no c r s f x k go =
    let ns = c.args.site.now.names.now in
    ap (λ l. takes_such (is_owner s f) (types_in ns l) (λ t rest. go rest)) c.in-Some.ensures.some
    ∙ ap (λ b. if b then go (types_in ns c.pop.new.self) else Fails 7) (sym (c.is_owner.ensures s f x k) ∙ r)
