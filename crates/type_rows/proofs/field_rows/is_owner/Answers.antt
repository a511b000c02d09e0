use Rattle.std.proofs.Common.{◌≡◌, ◌+◌, ◌≤◌, ◌-◌, List, map, length, true, false, ◌∷◌, ◌++◌, ◌&&◌, ◌||◌, refl, ap, sym, subst, ◌∙◌, arith, Option, Some, None}
use Rattle.std.specs.Prelude.{if◌then◌else◌, nat_le, nat_lt, slice_get}
use Rattle.std.specs.Option.{option_map}
use Rattle.program_rules.specs.Names.{same, instance_initializer}
use Rattle.program_rules.specs.Types as rules
use Rattle.type_rules.specs.References.{classes_of, dimensions}
use Rattle.type_rules.specs.Assignability.{assignable, height}
use Rattle.type_rules.specs.Rows.{Setting, Checked, leads_all, Falls, Stops, Fails, row, gives, takes, takes_such, takes_ints, falls, has_room, allows, declares, is_owner, is_parent, is_any_reference, may_name, plainly_named, initialise, initialises_new, replace_type, with_result}
use Rattle.class_table.specs.Table.{look}
use Rattle.vframes.specs.Named.{name_at}
use Rattle.vframes.specs.View.{type_of, types_in}
use Rattle.vframes.specs.FrameView.{types_of}
use Rattle.type_rules.specs.Frames.{type_of as type_of_kind, new_at, new_of}
use Rattle.type_rows.specs.Items.{is_plain, is_init}
use Rattle.type_rows.specs.Sites.{IsSettingOf, made_in}
use Rattle.type_rows.proofs.Settings.{leads_is, room_is, args_at, room_lacks, room_serves}
use Rattle.type_rows.proofs.Homes.{at_home, owner_this, owner_other}
use Rattle.type_rows.proofs.field_rows.is_owner.Goals as goal

pub returns-then-is_of : goal.returns-then-is_of
returns-then-is_of c s r x k =
    sym (owner_this s r c.args.site.now.names.now c.args.t (sym c.if-is_of.ensures) ∙ k.declared s (at_home s c.args.site.now x))

pub returns-else-is_of : goal.returns-else-is_of
returns-else-is_of c s r x k =
    let ns = c.args.site.now.names.now in
    c.is_assignable.ensures ∙ sym (owner_other s r ns c.args.t (sym c.if-is_of.ensures)
    ∙ ap (λ p. assignable p (type_of ns c.args.t) (rules.Obj r.class)) x.program
    ∙ ap (λ n. assignable (classes_of (look c.args.site.now.program.now)) (type_of ns c.args.t) (rules.Obj n)) (sym k.owner))
