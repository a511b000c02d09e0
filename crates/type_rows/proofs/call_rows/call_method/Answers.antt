use Rattle.std.proofs.Common.{◌≡◌, ◌∷◌, ◌++◌, ◌&&◌, refl, ap, sym, ◌∙◌}
use Rattle.std.specs.Prelude.{if◌then◌else◌}
use Rattle.program_rules.specs.Types as rules
use Rattle.type_rules.specs.References.{classes_of}
use Rattle.type_rules.specs.Assignability.{assignable}
use Rattle.type_rules.specs.Rows.{Falls, Stops, Fails, row, gives, takes, returns as returns_of, leads, has_kind, is_reference_kind}
use Rattle.class_table.specs.Table.{look}
use Rattle.vframes.specs.View.{type_of, types_in}
use Rattle.vframes.specs.FrameView.{types_of}
use Rattle.type_rows.specs.Sites.{leads_in}
use Rattle.type_rules.specs.Frames.{type_of as type_of_kind}
use Rattle.type_rows.specs.Items.{is_plain}
use Rattle.type_rows.proofs.Settings.{leads_is, room_is, args_at, call_ends, ends_full, ends_plain}
use Rattle.type_rows.proofs.call_rows.call_method.Goals as goal

pub returns-then-not-take_args-clause-virtual_ : goal.returns-then-not-take_args-clause-virtual_
unfolding row
returns-then-not-take_args-clause-virtual_ c s at r x i =
    let ns = c.args.site.now.names.now in
    args_at s ns r c.args.method.now (types_in ns c.args.f.now.stack) _ i c.as_slice.result.now (c.as_slice.ensures.value ∙ ap (λ v. v.items) c.deref.ensures) ∙ c.if-not-take_args.ensures.no refl s x _

pub returns-then-not-take_assignable-clause-virtual_ : goal.returns-then-not-take_assignable-clause-virtual_
unfolding row
returns-then-not-take_assignable-clause-virtual_ c s at r x i =
    let ns = c.args.site.now.names.now in
    args_at s ns r c.args.method.now (types_in ns c.args.f.now.stack) _ i c.as_slice.result.now (c.as_slice.ensures.value ∙ ap (λ v. v.items) c.deref.ensures) ∙ c.if-not-take_args.ensures.yes refl s x _ ∙ ap (λ n. takes s (rules.Obj n) (types_in ns c.take_args.new.stack) (call_ends s r (types_of ns c.args.f.now))) (sym i.class) ∙ c.if-not-take_assignable.ensures.no refl s x _

pub returns-then-not-fits-clause-virtual_ : goal.returns-then-not-fits-clause-virtual_
unfolding row
returns-then-not-fits-clause-virtual_ c s at r x i =
    let ns = c.args.site.now.names.now in
    args_at s ns r c.args.method.now (types_in ns c.args.f.now.stack) _ i c.as_slice.result.now (c.as_slice.ensures.value ∙ ap (λ v. v.items) c.deref.ensures) ∙ c.if-not-take_args.ensures.yes refl s x _ ∙ ap (λ n. takes s (rules.Obj n) (types_in ns c.take_args.new.stack) (call_ends s r (types_of ns c.args.f.now))) (sym i.class) ∙ c.if-not-take_assignable.ensures.yes refl s x _ ∙ ends_full s c.args.site.now r c.args.method.now (types_of ns c.args.f.now) c.take_assignable.new.stack c.push_result.new.stack x i c.in_ok-push_result.ensures (c.if-not-fits.ensures ns)

pub returns-clause-virtual_ : goal.returns-clause-virtual_
unfolding row
returns-clause-virtual_ c s at r x i =
    let ns = c.args.site.now.names.now in
    args_at s ns r c.args.method.now (types_in ns c.args.f.now.stack) _ i c.as_slice.result.now (c.as_slice.ensures.value ∙ ap (λ v. v.items) c.deref.ensures) ∙ c.if-not-take_args.ensures.yes refl s x _ ∙ ap (λ n. takes s (rules.Obj n) (types_in ns c.take_args.new.stack) (call_ends s r (types_of ns c.args.f.now))) (sym i.class) ∙ c.if-not-take_assignable.ensures.yes refl s x _ ∙ ends_plain s c.args.site.now r c.args.method.now (types_of ns c.args.f.now) c.take_assignable.new.stack c.push_result.new.stack x i c.in_ok-push_result.ensures (c.if-not-fits.ensures ns) ∙ c.plainly.ensures r i

pub returns-then-not-take_args-clause-interface : goal.returns-then-not-take_args-clause-interface
unfolding row
returns-then-not-take_args-clause-interface c s at r x i =
    let ns = c.args.site.now.names.now in
    args_at s ns r c.args.method.now (types_in ns c.args.f.now.stack) _ i c.as_slice.result.now (c.as_slice.ensures.value ∙ ap (λ v. v.items) c.deref.ensures) ∙ c.if-not-take_args.ensures.no refl s x _

pub returns-then-not-take_assignable-clause-interface : goal.returns-then-not-take_assignable-clause-interface
unfolding row
returns-then-not-take_assignable-clause-interface c s at r x i =
    let ns = c.args.site.now.names.now in
    args_at s ns r c.args.method.now (types_in ns c.args.f.now.stack) _ i c.as_slice.result.now (c.as_slice.ensures.value ∙ ap (λ v. v.items) c.deref.ensures) ∙ c.if-not-take_args.ensures.yes refl s x _ ∙ ap (λ n. takes s (rules.Obj n) (types_in ns c.take_args.new.stack) (call_ends s r (types_of ns c.args.f.now))) (sym i.class) ∙ c.if-not-take_assignable.ensures.no refl s x _

pub returns-then-not-fits-clause-interface : goal.returns-then-not-fits-clause-interface
unfolding row
returns-then-not-fits-clause-interface c s at r x i =
    let ns = c.args.site.now.names.now in
    args_at s ns r c.args.method.now (types_in ns c.args.f.now.stack) _ i c.as_slice.result.now (c.as_slice.ensures.value ∙ ap (λ v. v.items) c.deref.ensures) ∙ c.if-not-take_args.ensures.yes refl s x _ ∙ ap (λ n. takes s (rules.Obj n) (types_in ns c.take_args.new.stack) (call_ends s r (types_of ns c.args.f.now))) (sym i.class) ∙ c.if-not-take_assignable.ensures.yes refl s x _ ∙ ends_full s c.args.site.now r c.args.method.now (types_of ns c.args.f.now) c.take_assignable.new.stack c.push_result.new.stack x i c.in_ok-push_result.ensures (c.if-not-fits.ensures ns)

pub returns-clause-interface : goal.returns-clause-interface
unfolding row
returns-clause-interface c s at r x i =
    let ns = c.args.site.now.names.now in
    args_at s ns r c.args.method.now (types_in ns c.args.f.now.stack) _ i c.as_slice.result.now (c.as_slice.ensures.value ∙ ap (λ v. v.items) c.deref.ensures) ∙ c.if-not-take_args.ensures.yes refl s x _ ∙ ap (λ n. takes s (rules.Obj n) (types_in ns c.take_args.new.stack) (call_ends s r (types_of ns c.args.f.now))) (sym i.class) ∙ c.if-not-take_assignable.ensures.yes refl s x _ ∙ ends_plain s c.args.site.now r c.args.method.now (types_of ns c.args.f.now) c.take_assignable.new.stack c.push_result.new.stack x i c.in_ok-push_result.ensures (c.if-not-fits.ensures ns) ∙ c.plainly.ensures r i
