use Rattle.std.proofs.Common.{◌∙◌, List, ℕ, Option, Result, Ok, Err, IfOk, map, ap, ap₂}
use Rattle.class_model.specs.declared.class.ClassId.{ClassId}
use Rattle.history_file.specs.declared.row.Entry.{Entry}
use Rattle.suite_runs.specs.Placing.{class_at, lines_at}
use Rattle.suite_runs.proofs.LinesReached.{found_are}
use Rattle.suite_runs.proofs.reached.found_lines.Goals as goal

if_ok : {X E : Type 0} {P Q : X → Type 0} (r : Result X E) → ((x : X) → P x → Q x) → IfOk r P → IfOk r Q
if_ok (Ok x) h p = h x p
if_ok (Err e) h p = tt

pub returns-in_ok-classes-in-Some : goal.returns-in_ok-classes-in-Some
returns-in_ok-classes-in-Some c = λ p named.
    let n = c.args.named.now in
    if_ok c.lines_at.result
    (λ lines is.
    found_are p c.args.found.now c.in-Some.row.now n c.in_ok-classes-in-Some.classes.items lines.items named c.in-Some.ensures
    (c.in_ok-classes-in-Some.ensures ∙ ap (λ (es : List Entry). map (λ e. class_at n.classes.items n.nameless e.name) es) c.as_slice.ensures)
    (is ∙ ap₂ (λ (cs : List (Option ClassId)) (xs : List (ℕ × ℕ)). lines_at cs n.nameless xs) c.as_slice-in-Some.ensures.value c.as_slice-in-Some-2.ensures)) c.lines_at.ensures
