use Rattle.std.proofs.Common.{◌≡◌, ◌∷◌, ◌++◌, ◌&&◌, refl, ap, sym, ◌∙◌}
use Rattle.std.specs.Prelude.{if◌then◌else◌}
use Rattle.program_rules.specs.Types as rules
use Rattle.type_rules.specs.References.{classes_of}
use Rattle.type_rules.specs.Assignability.{assignable}
use Rattle.type_rules.specs.Rows.{Falls, Stops, Fails, row, gives, takes, returns as returns_of, leads, has_kind, is_reference_kind}
use Rattle.class_table.specs.Table.{look}
use Rattle.vframes.specs.View.{type_of, types_in}
use Rattle.vframes.specs.FrameView.{types_of}
use Rattle.type_rows.specs.Sites.{leads_in}
use Rattle.type_rules.specs.Frames.{type_of as type_of_kind}
use Rattle.type_rows.specs.Items.{is_plain}
use Rattle.type_rows.proofs.Settings.{leads_is, room_is, args_at, call_ends, ends_full, ends_plain}
use Rattle.type_rows.proofs.reference_rows.check_cast.Goals as goal

pub returns-in_default : goal.returns-in_default
unfolding row
returns-in_default c ns s at e = c.in_default.ensures.none ns _

pub returns : goal.returns
unfolding row
returns c ns s at e = c.in-Some.ensures.some ns _ ∙ ap (λ l. gives s (types_of ns c.args.f.now) (types_in ns l)) (sym c.in_ok-push.ensures) ∙ c.give.ensures ns s e
