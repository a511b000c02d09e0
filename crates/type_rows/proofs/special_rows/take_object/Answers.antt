use Rattle.std.proofs.Common.{◌≡◌, ◌+◌, ◌≤◌, ◌-◌, List, map, length, true, false, ◌∷◌, ◌++◌, ◌&&◌, ◌||◌, refl, ap, sym, subst, ◌∙◌, arith, Option, Some, None}
use Rattle.std.specs.Prelude.{if◌then◌else◌, nat_le, nat_lt, slice_get}
use Rattle.std.specs.Option.{option_map}
use Rattle.program_rules.specs.Names.{same, instance_initializer}
use Rattle.program_rules.specs.Types as rules
use Rattle.type_rules.specs.References.{classes_of, dimensions}
use Rattle.type_rules.specs.Assignability.{assignable, height}
use Rattle.type_rules.specs.Rows.{Setting, Checked, leads_all, Falls, Stops, Fails, row, gives, takes, takes_such, takes_ints, falls, has_room, allows, declares, is_owner, is_parent, is_any_reference, may_name, plainly_named, initialise, initialises_new, replace_type, with_result}
use Rattle.class_table.specs.Table.{look}
use Rattle.vframes.specs.Named.{name_at}
use Rattle.vframes.specs.View.{type_of, types_in}
use Rattle.vframes.specs.FrameView.{types_of}
use Rattle.type_rules.specs.Frames.{type_of as type_of_kind, new_at, new_of}
use Rattle.type_rows.specs.Items.{is_plain, is_init}
use Rattle.type_rows.specs.Sites.{IsSettingOf, made_in}
use Rattle.type_rows.proofs.Settings.{leads_is, room_is, args_at, room_lacks, room_serves}
use Rattle.type_rows.proofs.Homes.{at_home, owner_this, owner_other}
use Rattle.type_rows.proofs.special_rows.take_object.Goals as goal

pub returns-in_default-clause-none : goal.returns-in_default-clause-none
returns-in_default-clause-none c s x go =
    let ns = c.args.site.now.names.now in
    ap (λ l. takes_such (λ z. assignable s.program z (rules.Obj (name_at ns c.args.class))) (types_in ns l) go) c.in_default.ensures.none

pub returns-then-is_assignable-clause-some : goal.returns-then-is_assignable-clause-some
returns-then-is_assignable-clause-some c s x go =
    let ns = c.args.site.now.names.now in
    ap (λ l. takes_such (λ z. assignable s.program z (rules.Obj (name_at ns c.args.class))) (types_in ns l) go) c.in-Some.ensures.some
    ∙ ap (λ b. if b then go (type_of ns c.in-Some.t) (types_in ns c.pop.new.self) else Fails 7)
    (ap (λ p. assignable p (type_of ns c.in-Some.t) (rules.Obj (name_at ns c.args.class))) x.program ∙ sym c.if-is_assignable.ensures)

pub returns-else-is_assignable-clause-none : goal.returns-else-is_assignable-clause-none
returns-else-is_assignable-clause-none c s x go =
    let ns = c.args.site.now.names.now in
    ap (λ l. takes_such (λ z. assignable s.program z (rules.Obj (name_at ns c.args.class))) (types_in ns l) go) c.in-Some.ensures.some
    ∙ ap (λ b. if b then go (type_of ns c.in-Some.t) (types_in ns c.pop.new.self) else Fails 7)
    (ap (λ p. assignable p (type_of ns c.in-Some.t) (rules.Obj (name_at ns c.args.class))) x.program ∙ sym c.if-is_assignable.ensures)
