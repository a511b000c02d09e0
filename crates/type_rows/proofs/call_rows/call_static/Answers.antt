use Rattle.std.proofs.Common.{◌≡◌, ◌∷◌, ◌++◌, ◌&&◌, refl, ap, sym, ◌∙◌}
use Rattle.std.specs.Prelude.{if◌then◌else◌}
use Rattle.program_rules.specs.Types as rules
use Rattle.type_rules.specs.References.{classes_of}
use Rattle.type_rules.specs.Assignability.{assignable}
use Rattle.type_rules.specs.Rows.{Falls, Stops, Fails, row, gives, takes, returns as returns_of, leads, has_kind, is_reference_kind}
use Rattle.class_table.specs.Table.{look}
use Rattle.vframes.specs.View.{type_of, types_in}
use Rattle.vframes.specs.FrameView.{types_of}
use Rattle.type_rows.specs.Sites.{leads_in}
use Rattle.type_rules.specs.Frames.{type_of as type_of_kind}
use Rattle.type_rows.specs.Items.{is_plain}
use Rattle.type_rows.proofs.Settings.{leads_is, room_is, args_at, call_ends, ends_full, ends_plain}
use Rattle.type_rows.proofs.call_rows.call_static.Goals as goal

pub returns-then-not-take_args : goal.returns-then-not-take_args
unfolding row
returns-then-not-take_args c s at r x i =
    let ns = c.args.site.now.names.now in
    args_at s ns r c.args.method.now (types_in ns c.args.f.now.stack) _ i c.as_slice.result.now (c.as_slice.ensures.value ∙ ap (λ v. v.items) c.deref.ensures) ∙ c.if-not-take_args.ensures.no refl s x _

pub returns-then-not-fits : goal.returns-then-not-fits
unfolding row
returns-then-not-fits c s at r x i =
    let ns = c.args.site.now.names.now in
    args_at s ns r c.args.method.now (types_in ns c.args.f.now.stack) _ i c.as_slice.result.now (c.as_slice.ensures.value ∙ ap (λ v. v.items) c.deref.ensures) ∙ c.if-not-take_args.ensures.yes refl s x _ ∙ ends_full s c.args.site.now r c.args.method.now (types_of ns c.args.f.now) c.take_args.new.stack c.push_result.new.stack x i c.in_ok-push_result.ensures (c.if-not-fits.ensures ns)

pub returns : goal.returns
unfolding row
returns c s at r x i =
    let ns = c.args.site.now.names.now in
    args_at s ns r c.args.method.now (types_in ns c.args.f.now.stack) _ i c.as_slice.result.now (c.as_slice.ensures.value ∙ ap (λ v. v.items) c.deref.ensures) ∙ c.if-not-take_args.ensures.yes refl s x _ ∙ ends_plain s c.args.site.now r c.args.method.now (types_of ns c.args.f.now) c.take_args.new.stack c.push_result.new.stack x i c.in_ok-push_result.ensures (c.if-not-fits.ensures ns) ∙ c.plainly.ensures r i
