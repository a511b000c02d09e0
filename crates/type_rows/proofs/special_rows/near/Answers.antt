use Rattle.std.proofs.Common.{◌≡◌, ◌+◌, ◌≤◌, ◌-◌, List, map, length, true, false, ◌∷◌, ◌++◌, ◌&&◌, ◌||◌, refl, ap, sym, subst, ◌∙◌, arith, Option, Some, None}
use Rattle.std.specs.Prelude.{if◌then◌else◌, nat_le, nat_lt, slice_get}
use Rattle.std.specs.Option.{option_map}
use Rattle.program_rules.specs.Names.{same, instance_initializer}
use Rattle.program_rules.specs.Types as rules
use Rattle.type_rules.specs.References.{classes_of, dimensions}
use Rattle.type_rules.specs.Assignability.{assignable, height}
use Rattle.type_rules.specs.Rows.{Setting, Checked, leads_all, Falls, Stops, Fails, row, gives, takes, takes_such, takes_ints, falls, has_room, allows, declares, is_owner, is_parent, is_any_reference, may_name, plainly_named, initialise, initialises_new, replace_type, with_result}
use Rattle.class_table.specs.Table.{look}
use Rattle.vframes.specs.Named.{name_at}
use Rattle.vframes.specs.View.{type_of, types_in}
use Rattle.vframes.specs.FrameView.{types_of}
use Rattle.type_rules.specs.Frames.{type_of as type_of_kind, new_at, new_of}
use Rattle.type_rows.specs.Items.{is_plain, is_init}
use Rattle.type_rows.specs.Sites.{IsSettingOf, made_in}
use Rattle.type_rows.proofs.Settings.{leads_is, room_is, args_at, room_lacks, room_serves}
use Rattle.type_rows.proofs.Homes.{at_home, owner_this, owner_other}
use Rattle.type_rows.proofs.special_rows.near.Goals as goal

pub returns-then-not-is_plain : goal.returns-then-not-is_plain
returns-then-not-is_plain c s r x i k =
    let ns = c.args.site.now.names.now in
    ap (λ b. if b then (if may_name s r.class && assignable s.program (type_of ns c.args.top) (rules.Obj s.class) then Falls (types_of ns c.args.f.now) else Fails 12) else Fails 12) (i.plain ∙ sym c.if-not-is_plain.ensures)

pub returns-then-not-method : goal.returns-then-not-method
returns-then-not-method c s r x i k =
    let ns = c.args.site.now.names.now in
    let e : c.args.method.now.is_near ≡ false = cc in
    ap (λ b. if b then (if may_name s r.class && assignable s.program (type_of ns c.args.top) (rules.Obj s.class) then Falls (types_of ns c.args.f.now) else Fails 12) else Fails 12) (i.plain ∙ sym c.if-not-is_plain.ensures)
    ∙ ap (λ b. if b && assignable s.program (type_of ns c.args.top) (rules.Obj s.class) then Falls (types_of ns c.args.f.now) else Fails 12) (k.near s (at_home s c.args.site.now x) ∙ e)

pub returns-then-is_assignable : goal.returns-then-is_assignable
returns-then-is_assignable c s r x i k =
    let ns = c.args.site.now.names.now in
    let e : c.args.method.now.is_near ≡ true = cc in
    ap (λ b. if b then (if may_name s r.class && assignable s.program (type_of ns c.args.top) (rules.Obj s.class) then Falls (types_of ns c.args.f.now) else Fails 12) else Fails 12) (i.plain ∙ sym c.if-not-is_plain.ensures)
    ∙ ap (λ b. if b && assignable s.program (type_of ns c.args.top) (rules.Obj s.class) then Falls (types_of ns c.args.f.now) else Fails 12) (k.near s (at_home s c.args.site.now x) ∙ e)
    ∙ ap (λ b. if b then Falls (types_of ns c.args.f.now) else Fails 12) (ap (λ p. assignable p (type_of ns c.args.top) (rules.Obj s.class)) x.program ∙ ap (λ m. assignable (classes_of (look c.args.site.now.program.now)) (type_of ns c.args.top) (rules.Obj m)) x.class ∙ sym c.if-is_assignable.ensures)

pub returns-else-is_assignable : goal.returns-else-is_assignable
returns-else-is_assignable c s r x i k =
    let ns = c.args.site.now.names.now in
    let e : c.args.method.now.is_near ≡ true = cc in
    ap (λ b. if b then (if may_name s r.class && assignable s.program (type_of ns c.args.top) (rules.Obj s.class) then Falls (types_of ns c.args.f.now) else Fails 12) else Fails 12) (i.plain ∙ sym c.if-not-is_plain.ensures)
    ∙ ap (λ b. if b && assignable s.program (type_of ns c.args.top) (rules.Obj s.class) then Falls (types_of ns c.args.f.now) else Fails 12) (k.near s (at_home s c.args.site.now x) ∙ e)
    ∙ ap (λ b. if b then Falls (types_of ns c.args.f.now) else Fails 12) (ap (λ p. assignable p (type_of ns c.args.top) (rules.Obj s.class)) x.program ∙ ap (λ m. assignable (classes_of (look c.args.site.now.program.now)) (type_of ns c.args.top) (rules.Obj m)) x.class ∙ sym c.if-is_assignable.ensures)
