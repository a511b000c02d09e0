use Rattle.std.proofs.Common.{◌≡◌, ◌+◌, ◌≤◌, ◌-◌, List, map, length, true, false, ◌∷◌, ◌++◌, ◌&&◌, ◌||◌, refl, ap, sym, subst, ◌∙◌, arith, Option, Some, None}
use Rattle.std.specs.Prelude.{if◌then◌else◌, nat_le, nat_lt, slice_get}
use Rattle.std.specs.Option.{option_map}
use Rattle.program_rules.specs.Names.{same, instance_initializer}
use Rattle.program_rules.specs.Types as rules
use Rattle.type_rules.specs.References.{classes_of, dimensions}
use Rattle.type_rules.specs.Assignability.{assignable, height}
use Rattle.type_rules.specs.Rows.{Setting, Checked, leads_all, Falls, Stops, Fails, row, gives, takes, takes_such, takes_ints, falls, has_room, allows, declares, is_owner, is_parent, is_any_reference, may_name, plainly_named, initialise, initialises_new, replace_type, with_result}
use Rattle.class_table.specs.Table.{look}
use Rattle.vframes.specs.Named.{name_at}
use Rattle.vframes.specs.View.{type_of, types_in}
use Rattle.vframes.specs.FrameView.{types_of}
use Rattle.type_rules.specs.Frames.{type_of as type_of_kind, new_at, new_of}
use Rattle.type_rows.specs.Items.{is_plain, is_init}
use Rattle.type_rows.specs.Sites.{IsSettingOf, made_in}
use Rattle.type_rows.proofs.Settings.{leads_is, room_is, args_at, room_lacks, room_serves}
use Rattle.type_rows.proofs.Homes.{at_home, owner_this, owner_other}
use Rattle.vframes.proofs.FreshLaws.{types_replaced}
use Rattle.vframes.specs.declared.slot_type.SlotType.TheVariants as slot
use Rattle.vframes.specs.Fresh.{fresh_type, slot_replaced}
use Rattle.vframes.specs.declared.fresh.Fresh.TheVariants as fresh
use Rattle.type_rows.proofs.special_rows.initialise.Goals as goal

pub returns : goal.returns
returns c =
    let u = slot.Obj c.args.class in
    record {
      locals = λ ns. ap (types_in ns) (c.in_ok-locals.ensures ∙ ap (map (slot_replaced c.args.fresh u)) c.deref.ensures.value)
          ∙ types_replaced ns c.args.fresh u c.args.f.now.locals.items;
      stack = λ ns. ap (types_in ns) c.in_ok-stack.ensures ∙ types_replaced ns c.args.fresh u c.args.f.now.stack;
      flag = refl;
    }
