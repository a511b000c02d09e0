use Rattle.std.proofs.Common.{◌≡◌, ◌∷◌, ◌++◌, ◌&&◌, refl, ap, sym, ◌∙◌}
use Rattle.std.specs.Prelude.{if◌then◌else◌}
use Rattle.program_rules.specs.Types as rules
use Rattle.type_rules.specs.References.{classes_of}
use Rattle.type_rules.specs.Assignability.{assignable}
use Rattle.type_rules.specs.Rows.{Falls, Stops, Fails, row, gives, takes, returns as returns_of, leads, has_kind, is_reference_kind}
use Rattle.class_table.specs.Table.{look}
use Rattle.vframes.specs.View.{type_of, types_in}
use Rattle.vframes.specs.FrameView.{types_of}
use Rattle.type_rows.specs.Sites.{leads_in}
use Rattle.type_rules.specs.Frames.{type_of as type_of_kind}
use Rattle.type_rows.specs.Items.{is_plain}
use Rattle.type_rows.proofs.Settings.{leads_is, room_is, args_at, call_ends, ends_full, ends_plain}
use Rattle.type_rows.proofs.reference_rows.throw.Goals as goal

pub returns-then-take_assignable : goal.returns-then-take_assignable
unfolding row
returns-then-take_assignable c s at x =
    let ns = c.args.site.now.names.now in
    ap (λ n. takes s (rules.Obj n) (types_in ns c.args.f.now.stack) (λ rest. Stops)) (sym c.requires.throwable) ∙ c.if-take_assignable.ensures.yes refl s x _

pub returns-else-take_assignable : goal.returns-else-take_assignable
unfolding row
returns-else-take_assignable c s at x =
    let ns = c.args.site.now.names.now in
    ap (λ n. takes s (rules.Obj n) (types_in ns c.args.f.now.stack) (λ rest. Stops)) (sym c.requires.throwable) ∙ c.if-take_assignable.ensures.no refl s x _
