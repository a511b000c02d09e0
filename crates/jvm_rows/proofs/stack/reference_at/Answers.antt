use Rattle.std.proofs.Common.{Some, sym, ap, ◌∙◌}
use Rattle.program_rules.specs.declared.value.Value.{Value}
use Rattle.jvm_frames.specs.Frames.{stack_of}
use Rattle.jvm_rows.proofs.Taken.{takes_ref}
use Rattle.jvm_rows.proofs.stack.reference_at.Goals as goal

pub returns-in-Some-Ref-clause-some : goal.returns-in-Some-Ref-clause-some
returns-in-Some-Ref-clause-some c =
    let stack = stack_of c.args.frames.now.frame in
    takes_ref stack c.args.place c.in-Some-Ref.x (ap (λ (v : Value). Some v) (sym c.in-Some-Ref.field-0-is) ∙ sym c.in-Some-Ref.is ∙ c.value.ensures)
