use Rattle.std.proofs.Common.{◌≡◌, ◌+◌, ◌≤◌, ◌-◌, List, map, length, true, false, ◌∷◌, ◌++◌, ◌&&◌, ◌||◌, refl, ap, sym, subst, ◌∙◌, arith, Option, Some, None}
use Rattle.std.specs.Prelude.{if◌then◌else◌, nat_le, nat_lt, slice_get}
use Rattle.std.specs.Option.{option_map}
use Rattle.program_rules.specs.Names.{same, instance_initializer}
use Rattle.program_rules.specs.Types as rules
use Rattle.type_rules.specs.References.{classes_of, dimensions}
use Rattle.type_rules.specs.Assignability.{assignable, height}
use Rattle.type_rules.specs.Rows.{Setting, Checked, leads_all, Falls, Stops, Fails, row, gives, takes, takes_such, takes_ints, falls, has_room, allows, declares, is_owner, is_parent, is_any_reference, may_name, plainly_named, initialise, initialises_new, replace_type, with_result}
use Rattle.class_table.specs.Table.{look}
use Rattle.vframes.specs.Named.{name_at}
use Rattle.vframes.specs.View.{type_of, types_in}
use Rattle.vframes.specs.FrameView.{types_of}
use Rattle.type_rules.specs.Frames.{type_of as type_of_kind, new_at, new_of}
use Rattle.type_rows.specs.Items.{is_plain, is_init}
use Rattle.type_rows.specs.Sites.{IsSettingOf, made_in}
use Rattle.type_rows.proofs.Settings.{leads_is, room_is, args_at, room_lacks, room_serves}
use Rattle.type_rows.proofs.Homes.{at_home, owner_this, owner_other, init_only, near_only, near_ends}
use Rattle.type_rows.proofs.special_rows.call_near.Goals as goal

pub returns-then-not-take_args : goal.returns-then-not-take_args
returns-then-not-take_args c s r x i k e =
    let ns = c.args.site.now.names.now in
    near_only s (types_of ns c.args.f.now) r e ∙ args_at s ns r c.args.method.now (types_in ns c.args.f.now.stack) _ i c.as_slice.result.now (c.as_slice.ensures.value ∙ ap (λ v. v.items) c.deref.ensures)
    ∙ c.if-not-take_args.ensures.no refl s x _

pub returns-in_default : goal.returns-in_default
returns-in_default c s r x i k e =
    let ns = c.args.site.now.names.now in
    near_only s (types_of ns c.args.f.now) r e ∙ args_at s ns r c.args.method.now (types_in ns c.args.f.now.stack) _ i c.as_slice.result.now (c.as_slice.ensures.value ∙ ap (λ v. v.items) c.deref.ensures)
    ∙ c.if-not-take_args.ensures.yes refl s x _ ∙ ap (λ m. takes_such (λ z. assignable s.program z (rules.Obj m)) (types_in ns c.take_args.new.stack) (near_ends s (types_of ns c.args.f.now) r)) (sym i.class) ∙ c.in_default.ensures.none s x _

pub returns-then-not-fits : goal.returns-then-not-fits
returns-then-not-fits c s r x i k e =
    let ns = c.args.site.now.names.now in
    near_only s (types_of ns c.args.f.now) r e ∙ args_at s ns r c.args.method.now (types_in ns c.args.f.now.stack) _ i c.as_slice.result.now (c.as_slice.ensures.value ∙ ap (λ v. v.items) c.deref.ensures)
    ∙ c.if-not-take_args.ensures.yes refl s x _ ∙ ap (λ m. takes_such (λ z. assignable s.program z (rules.Obj m)) (types_in ns c.take_args.new.stack) (near_ends s (types_of ns c.args.f.now) r)) (sym i.class) ∙ c.in-Some.ensures.some s x _
    ∙ room_lacks s c.args.site.now r c.args.method.now (λ l. (plainly_named r (if may_name s r.class && assignable s.program (type_of ns c.in-Some.top) (rules.Obj s.class) then falls (types_of ns c.args.f.now) l else Fails 12))) c.take_object.new.stack c.push_result.new.stack x i c.in_ok-push_result.ensures (c.if-not-fits.ensures ns)

pub returns : goal.returns
returns c s r x i k e =
    let ns = c.args.site.now.names.now in
    near_only s (types_of ns c.args.f.now) r e ∙ args_at s ns r c.args.method.now (types_in ns c.args.f.now.stack) _ i c.as_slice.result.now (c.as_slice.ensures.value ∙ ap (λ v. v.items) c.deref.ensures)
    ∙ c.if-not-take_args.ensures.yes refl s x _ ∙ ap (λ m. takes_such (λ z. assignable s.program z (rules.Obj m)) (types_in ns c.take_args.new.stack) (near_ends s (types_of ns c.args.f.now) r)) (sym i.class) ∙ c.in-Some.ensures.some s x _
    ∙ room_serves s c.args.site.now r c.args.method.now (λ l. (plainly_named r (if may_name s r.class && assignable s.program (type_of ns c.in-Some.top) (rules.Obj s.class) then falls (types_of ns c.args.f.now) l else Fails 12))) c.take_object.new.stack c.push_result.new.stack x i c.in_ok-push_result.ensures (c.if-not-fits.ensures ns)
    ∙ c.near.ensures s r x i k
