use Rattle.std.proofs.Common.{◌≡◌, ◌+◌, ◌≤◌, ◌-◌, List, map, length, true, false, ◌∷◌, ◌++◌, ◌&&◌, ◌||◌, refl, ap, sym, subst, ◌∙◌, arith, Option, Some, None}
use Rattle.std.specs.Prelude.{if◌then◌else◌, nat_le, nat_lt, slice_get}
use Rattle.std.specs.Option.{option_map}
use Rattle.program_rules.specs.Names.{same, instance_initializer}
use Rattle.program_rules.specs.Types as rules
use Rattle.type_rules.specs.References.{classes_of, dimensions}
use Rattle.type_rules.specs.Assignability.{assignable, height}
use Rattle.type_rules.specs.Rows.{Setting, Checked, leads_all, Falls, Stops, Fails, row, gives, takes, takes_such, takes_ints, falls, has_room, allows, declares, is_owner, is_parent, is_any_reference, may_name, plainly_named, initialise, initialises_new, replace_type, with_result}
use Rattle.class_table.specs.Table.{look}
use Rattle.vframes.specs.Named.{name_at}
use Rattle.vframes.specs.View.{type_of, types_in}
use Rattle.vframes.specs.FrameView.{types_of}
use Rattle.type_rules.specs.Frames.{type_of as type_of_kind, new_at, new_of}
use Rattle.type_rows.specs.Items.{is_plain, is_init}
use Rattle.type_rows.specs.Sites.{IsSettingOf, made_in}
use Rattle.type_rows.proofs.Settings.{leads_is, room_is, args_at, room_lacks, room_serves}
use Rattle.type_rows.proofs.Homes.{at_home, owner_this, owner_other}
use Rattle.vframes.proofs.FreshLaws.{types_replaced}
use Rattle.vframes.specs.declared.slot_type.SlotType.TheVariants as slot
use Rattle.vframes.specs.Fresh.{fresh_type, slot_replaced}
use Rattle.vframes.specs.declared.fresh.Fresh.TheVariants as fresh
use Rattle.type_rows.proofs.special_rows.initialise_this.Goals as goal

pub returns-then-not-method : goal.returns-then-not-method
returns-then-not-method c s r l x i k =
    let ns = c.args.site.now.names.now in
    let e : c.args.method.now.initialises_this ≡ false = cc in
    ap (λ b. if b then initialise (record (types_of ns c.args.f.now) { stack = l }) (types_in ns c.args.f.now.stack) rules.UninitThis s.class false else Fails 12) (k.this s (at_home s c.args.site.now x) ∙ e)

pub returns : goal.returns
returns c s r l x i k =
    let ns = c.args.site.now.names.now in
    let e : c.args.method.now.initialises_this ≡ true = cc in
    let n = c.in_ok-initialise.ensures in
    ap (λ b. if b then initialise (record (types_of ns c.args.f.now) { stack = l }) (types_in ns c.args.f.now.stack) rules.UninitThis s.class false else Fails 12) (k.this s (at_home s c.args.site.now x) ∙ e)
    ∙ ap (λ m. initialise (record (types_of ns c.args.f.now) { stack = l }) (types_in ns c.args.f.now.stack) rules.UninitThis m false) x.class
    ∙ ap (λ z. Falls (record { locals = z; stack = replace_type rules.UninitThis (rules.Obj (name_at ns c.args.site.now.class)) (types_in ns c.args.f.now.stack); flag = false })) (sym (n.locals ns))
    ∙ ap (λ z. Falls (record { locals = types_in ns c.initialise.new.f.locals.items; stack = z; flag = false })) (sym (n.stack ns))
