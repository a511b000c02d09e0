use Rattle.std.proofs.Common.{◌≡◌, [], List, None, get_or, length, sym, ap, ◌∙◌, subst, arith}
use Rattle.std.specs.Option.{unwrap_or}
use Rattle.std.proofs.lemmas.Grind.{common_steps}
use Rattle.program_rules.specs.Linked.{LinkedLine, line_number, line_at}
use Rattle.class_link.specs.Lines.{AreStartsOf, AreLinesOf}
use Rattle.class_link.proofs.LineLaws.{none_before, line_next, line_step, lines_none, lines_more}
use Rattle.class_link.proofs.line_table.lines.Goals as goal

pub loop-start-init : goal.loop-start-init
loop-start-init c = record {
  long = grind (arith, common_steps);
  line = λ rows h. sym (ap line_number (none_before rows));
  lines = λ rows h. subst (λ ls. AreLinesOf ls rows) (sym (let empty : c.in_ok-lines.lines.items ≡ [] = grind (arith, common_steps) in empty)) (lines_none rows);
}

pub loop-start-preserved : goal.loop-start-preserved
loop-start-preserved c =
    let line = c.unwrap_or-line.result in
    let at = c.loop-start.start-index in
    let is : line ≡ unwrap_or (get_or c.args.starts.now at None) c.loop-start.line = grind (arith, common_steps, c.unwrap_or-line.ensures) in
    let here : (rows : List LinkedLine) → AreStartsOf c.args.starts.now rows → line ≡ line_at at rows = λ rows h. is ∙ line_step c.args.starts.now rows at c.loop-start.line h c.loop-start-test.true (c.loop-start.invariant.line rows h) in
    record {
      long = grind (arith, common_steps);
      line = λ rows h. here rows h ∙ sym (line_next at rows);
      lines = λ rows h.
          let last : line ≡ line_at (length c.loop-start.lines.items) rows = here rows h ∙ ap (λ n. line_at n rows) (sym c.loop-start.invariant.long) in
          subst (λ ls. AreLinesOf ls rows) (sym c.in_ok-push.ensures.items) (lines_more c.loop-start.lines.items rows line (c.loop-start.invariant.lines rows h) last);
    }
