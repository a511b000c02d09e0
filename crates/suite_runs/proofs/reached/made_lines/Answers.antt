use Rattle.std.proofs.Common.{◌∙◌, List, ℕ, Option, ap, ap₂}
use Rattle.class_model.specs.declared.class.ClassId.{ClassId}
use Rattle.suite_runs.specs.Reaching.{classes_in}
use Rattle.suite_runs.specs.Placing.{lines_at}
use Rattle.suite_runs.proofs.LinesReached.{made_are}
use Rattle.suite_runs.proofs.reached.made_lines.Goals as goal

pub returns : goal.returns
returns c =
    made_are c.args.program.now c.args.made.now c.in_ok-classes.classes.items c.args.nameless c.in_ok-lines.lines.items
    (c.in_ok-classes.ensures ∙ ap (classes_in c.args.program.now) c.as_slice.ensures) c.requires
    (c.in_ok-lines.ensures ∙ ap₂ (λ (cs : List (Option ClassId)) (xs : List (ℕ × ℕ)). lines_at cs c.args.nameless xs) c.as_slice-2.ensures.value c.as_slice-3.ensures)
