use Rattle.std.proofs.Common.{◌≡◌, List, map, length, true, false, ◌∷◌, ◌++◌, ◌&&◌, refl, ap, sym, ◌∙◌}
use Rattle.std.specs.Prelude.{if◌then◌else◌}
use Rattle.program_rules.specs.Types as rules
use Rattle.type_rules.specs.References.{classes_of, array_name}
use Rattle.type_rules.specs.Assignability.{assignable}
use Rattle.type_rules.specs.Rows.{Setting, Checked, leads_all, Falls, Stops, Fails, row, gives, takes, returns as returns_of, leads, has_kind, is_reference_kind, takes_such, is_array_type}
use Rattle.class_table.specs.Table.{look}
use Rattle.vframes.specs.View.{type_of, types_in}
use Rattle.vframes.specs.FrameView.{types_of}
use Rattle.type_rows.specs.Sites.{leads_in, IsSettingOf}
use Rattle.type_rules.specs.Frames.{type_of as type_of_kind}
use Rattle.type_rows.specs.Items.{is_plain}
use Rattle.type_rows.proofs.Settings.{leads_is, room_is, args_at, call_ends, ends_full, ends_plain}
use Rattle.type_rows.proofs.array_rows.new_array.Goals as goal

pub returns-then-not-take_int : goal.returns-then-not-take_int
unfolding row
returns-then-not-take_int c ns s at k e named plain = c.if-not-take_int.ensures.no refl ns _

pub returns : goal.returns
unfolding row
returns c ns s at k e named plain = c.if-not-take_int.ensures.yes refl ns _
    ∙ ap (λ b. if b then Fails 7 else gives s (types_of ns c.args.f.now) (rules.Obj (array_name k) ∷ (types_in ns c.take_int.new.self))) plain
    ∙ ap (λ m. gives s (types_of ns c.args.f.now) (rules.Obj m ∷ (types_in ns c.take_int.new.self))) (sym named)
    ∙ ap (λ l. gives s (types_of ns c.args.f.now) (types_in ns l)) (sym c.in_ok-push.ensures) ∙ c.give.ensures ns s e
