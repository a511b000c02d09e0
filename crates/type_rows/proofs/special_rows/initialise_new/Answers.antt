use Rattle.std.proofs.Common.{◌≡◌, ◌+◌, ◌≤◌, ◌-◌, List, map, length, true, false, ◌∷◌, ◌++◌, ◌&&◌, ◌||◌, refl, ap, sym, subst, ◌∙◌, arith, Option, Some, None}
use Rattle.std.specs.Prelude.{if◌then◌else◌, nat_le, nat_lt, slice_get}
use Rattle.std.specs.Option.{option_map}
use Rattle.program_rules.specs.Names.{same, instance_initializer}
use Rattle.program_rules.specs.Types as rules
use Rattle.type_rules.specs.References.{classes_of, dimensions}
use Rattle.type_rules.specs.Assignability.{assignable, height}
use Rattle.type_rules.specs.Rows.{Setting, Checked, leads_all, Falls, Stops, Fails, row, gives, takes, takes_such, takes_ints, falls, has_room, allows, declares, is_owner, is_parent, is_any_reference, may_name, plainly_named, initialise, initialises_new, replace_type, with_result}
use Rattle.class_table.specs.Table.{look}
use Rattle.vframes.specs.Named.{name_at}
use Rattle.vframes.specs.View.{type_of, types_in}
use Rattle.vframes.specs.FrameView.{types_of}
use Rattle.type_rules.specs.Frames.{type_of as type_of_kind, new_at, new_of}
use Rattle.type_rows.specs.Items.{is_plain, is_init}
use Rattle.type_rows.specs.Sites.{IsSettingOf, made_in}
use Rattle.type_rows.proofs.Settings.{leads_is, room_is, args_at, room_lacks, room_serves}
use Rattle.type_rows.proofs.Homes.{at_home, owner_this, owner_other}
use Rattle.vframes.proofs.FreshLaws.{types_replaced}
use Rattle.vframes.specs.declared.slot_type.SlotType.TheVariants as slot
use Rattle.vframes.specs.Fresh.{fresh_type, slot_replaced}
use Rattle.vframes.specs.declared.fresh.Fresh.TheVariants as fresh
use Rattle.type_rows.proofs.special_rows.initialise_new.Goals as goal

pub returns-in_default : goal.returns-in_default
returns-in_default c s r l x i k =
    let ns = c.args.site.now.names.now in
    ap (λ d. initialises_new s (record (types_of ns c.args.f.now) { stack = l }) r (types_in ns c.args.f.now.stack) c.args.at (new_at d c.args.at)) x.code ∙ ap (λ o. initialises_new s (record (types_of ns c.args.f.now) { stack = l }) r (types_in ns c.args.f.now.stack) c.args.at o) c.in_default.ensures.none

pub returns-then-not-is_same_name : goal.returns-then-not-is_same_name
returns-then-not-is_same_name c s r l x i k =
    let ns = c.args.site.now.names.now in
    let m = name_at ns c.in-Some.class in
    ap (λ d. initialises_new s (record (types_of ns c.args.f.now) { stack = l }) r (types_in ns c.args.f.now.stack) c.args.at (new_at d c.args.at)) x.code ∙ ap (λ o. initialises_new s (record (types_of ns c.args.f.now) { stack = l }) r (types_in ns c.args.f.now.stack) c.args.at o) c.in-Some.ensures.some
    ∙ ap (λ q. if same q m then initialise (record (types_of ns c.args.f.now) { stack = l }) (types_in ns c.args.f.now.stack) (rules.Uninit c.args.at) m c.args.f.now.flag else Fails 12) (sym i.class)
    ∙ ap (λ b. if b then initialise (record (types_of ns c.args.f.now) { stack = l }) (types_in ns c.args.f.now.stack) (rules.Uninit c.args.at) m c.args.f.now.flag else Fails 12) (sym c.if-not-is_same_name.ensures)

pub returns : goal.returns
returns c s r l x i k =
    let ns = c.args.site.now.names.now in
    let m = name_at ns c.in-Some.class in
    let n = c.in_ok-initialise.ensures in
    ap (λ d. initialises_new s (record (types_of ns c.args.f.now) { stack = l }) r (types_in ns c.args.f.now.stack) c.args.at (new_at d c.args.at)) x.code ∙ ap (λ o. initialises_new s (record (types_of ns c.args.f.now) { stack = l }) r (types_in ns c.args.f.now.stack) c.args.at o) c.in-Some.ensures.some
    ∙ ap (λ q. if same q m then initialise (record (types_of ns c.args.f.now) { stack = l }) (types_in ns c.args.f.now.stack) (rules.Uninit c.args.at) m c.args.f.now.flag else Fails 12) (sym i.class)
    ∙ ap (λ b. if b then initialise (record (types_of ns c.args.f.now) { stack = l }) (types_in ns c.args.f.now.stack) (rules.Uninit c.args.at) m c.args.f.now.flag else Fails 12) (sym c.if-not-is_same_name.ensures)
    ∙ ap (λ z. Falls (record { locals = z; stack = replace_type (rules.Uninit c.args.at) (rules.Obj m) (types_in ns c.args.f.now.stack); flag = c.args.f.now.flag })) (sym (n.locals ns))
    ∙ ap (λ z. Falls (record { locals = types_in ns c.initialise.new.f.locals.items; stack = z; flag = c.args.f.now.flag })) (sym (n.stack ns))
    ∙ ap (λ z. Falls (record { locals = types_in ns c.initialise.new.f.locals.items; stack = types_in ns c.initialise.new.f.stack; flag = z })) (sym n.flag)
