use Rattle.std.proofs.Common.{◌≡◌, ◌∙◌, sym, ap}
use Rattle.type_rules.specs.References.{classes_of}
use Rattle.type_rules.specs.Assignability.{locals_assignable}
use Rattle.class_table.specs.Table.{look}
use Rattle.vframes.specs.View.{types_in}
use Rattle.vframes.specs.FrameView.{types_of}
use Rattle.vframes.specs.Stated.{full_locals}
use Rattle.vframes.proofs.StatedLaws.{no_flag, no_stack, both_same}
use Rattle.vframes.proofs.stated.is_assignable_to_stated.Goals as goal

pub returns-then-not-is_same_flag : goal.returns-then-not-is_same_flag
returns-then-not-is_same_flag c = λ f h.
    no_flag c.args.names.now c.args.store.now c.args.max_locals (classes_of (look c.args.program.now)) (types_of c.args.names.now c.args.from.now) f c.args.to.now h
    (sym c.is_same_flag.ensures ∙ c.if-not-is_same_flag.true)

pub returns-then-not-is_stack_assignable : goal.returns-then-not-is_stack_assignable
returns-then-not-is_stack_assignable c = λ f h.
    no_stack c.args.names.now c.args.store.now c.args.max_locals (classes_of (look c.args.program.now)) (types_of c.args.names.now c.args.from.now) f c.args.to.now h
    (sym c.is_stack_assignable.ensures ∙ c.if-not-is_stack_assignable.true)

pub returns : goal.returns
returns c = λ f h.
    let p = classes_of (look c.args.program.now) in
    let ns = c.args.names.now in
    both_same ns c.args.store.now c.args.max_locals p (types_of ns c.args.from.now) f c.args.to.now c.are_all_assignable.result h
    (sym c.is_same_flag.ensures ∙ c.if-not-is_same_flag.false)
    (sym c.is_stack_assignable.ensures ∙ c.if-not-is_stack_assignable.false)
    (λ ts a w. c.are_all_assignable.ensures ts a w ∙ ap (λ l. locals_assignable p (types_in ns l) (full_locals ns c.args.max_locals ts)) c.deref.ensures.value)
