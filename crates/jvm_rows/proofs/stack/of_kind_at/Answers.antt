use Rattle.std.proofs.Common.{◌∙◌, sym}
use Rattle.class_link.specs.Symbols.{kind_of}
use Rattle.jvm_frames.specs.Frames.{stack_of}
use Rattle.jvm_rows.proofs.Taken.{takes_kind, no_kind, no_kind_none, there_at}
use Rattle.jvm_rows.proofs.stack.of_kind_at.Goals as goal

pub returns-then-is_of_kind-clause-some : goal.returns-then-is_of_kind-clause-some
returns-then-is_of_kind-clause-some c = takes_kind (kind_of c.args.kind.now) (stack_of c.args.frames.now.frame) c.args.place c.in-Some.v c.in-Some.ensures (sym c.if-is_of_kind.true ∙ c.is_of_kind.ensures)

pub returns-then-is_of_kind-clause-there : goal.returns-then-is_of_kind-clause-there
returns-then-is_of_kind-clause-there c = there_at (stack_of c.args.frames.now.frame) c.args.place c.in-Some.v c.in-Some.ensures

pub returns-else-is_of_kind-clause-none : goal.returns-else-is_of_kind-clause-none
returns-else-is_of_kind-clause-none c = no_kind (kind_of c.args.kind.now) (stack_of c.args.frames.now.frame) c.args.place c.in-Some.v c.in-Some.ensures (sym c.if-is_of_kind.false ∙ c.is_of_kind.ensures)

pub returns-in-None-clause-none : goal.returns-in-None-clause-none
returns-in-None-clause-none c = no_kind_none (kind_of c.args.kind.now) (stack_of c.args.frames.now.frame) c.args.place c.in-None.ensures
