use Rattle.std.proofs.Common.{◌≡◌, ◌+◌, ◌≤◌, ◌-◌, List, map, length, true, false, ◌∷◌, ◌++◌, ◌&&◌, ◌||◌, refl, ap, sym, subst, ◌∙◌, arith, Option, Some, None}
use Rattle.std.specs.Prelude.{if◌then◌else◌, nat_le, nat_lt, slice_get}
use Rattle.std.specs.Option.{option_map}
use Rattle.program_rules.specs.Names.{same, instance_initializer}
use Rattle.program_rules.specs.Types as rules
use Rattle.type_rules.specs.References.{classes_of, dimensions}
use Rattle.type_rules.specs.Assignability.{assignable, height}
use Rattle.type_rules.specs.Rows.{Setting, Checked, leads_all, Falls, Stops, Fails, row, gives, takes, takes_such, takes_ints, falls, has_room, allows, declares, is_owner, is_parent, is_any_reference, may_name, plainly_named, initialise, initialises_new, replace_type, with_result}
use Rattle.class_table.specs.Table.{look}
use Rattle.vframes.specs.Named.{name_at}
use Rattle.vframes.specs.View.{type_of, types_in}
use Rattle.vframes.specs.FrameView.{types_of}
use Rattle.type_rules.specs.Frames.{type_of as type_of_kind, new_at, new_of}
use Rattle.type_rows.specs.Items.{is_plain, is_init}
use Rattle.type_rows.specs.Sites.{IsSettingOf, made_in}
use Rattle.type_rows.proofs.Settings.{leads_is, room_is, args_at, room_lacks, room_serves}
use Rattle.type_rows.proofs.Homes.{at_home, owner_this, owner_other}
use Rattle.type_rows.proofs.Homes.{more_by}
use Rattle.type_rows.proofs.array_rows.take_ints.Goals as goal

pub returns-then-not-take_int-clause-no : goal.returns-then-not-take_int-clause-no
returns-then-not-take_int-clause-no c r ns go =
    c.loop-left.invariant ns go ∙ ap (λ k. takes_ints k (types_in ns c.loop-left.stack) go) (more_by c.loop-left.left (omega (arith, c.loop-left-test.true)))
    ∙ c.if-not-take_int.ensures.no refl ns _

pub loop-left-preserved : goal.loop-left-preserved
loop-left-preserved c ns go =
    c.loop-left.invariant ns go ∙ ap (λ k. takes_ints k (types_in ns c.loop-left.stack) go) (more_by c.loop-left.left (omega (arith, c.loop-left-test.true)))
    ∙ c.if-not-take_int.ensures.yes refl ns _

pub returns-clause-yes : goal.returns-clause-yes
returns-clause-yes c r ns go =
    let none : c.loop-left.left ≡ 0 = omega (arith, c.loop-left-test.false) in
    c.loop-left.invariant ns go ∙ ap (λ k. takes_ints k (types_in ns c.loop-left.stack) go) none
