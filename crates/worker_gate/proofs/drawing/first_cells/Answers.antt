use Rattle.std.proofs.Common.{◌≡◌, ◌∙◌, sym, subst, suc, ◌+◌, [], ◌∷◌, ◌++◌, arith}
use Rattle.worker_gate.specs.Rounds.{AreFirsts}
use Rattle.worker_gate.proofs.RoundLaws.{firsts_pass, firsts_push}
use Rattle.worker_gate.proofs.drawing.first_cells.Goals as goal
use Rattle.worker_gate.proofs.drawing.first_cells.Goals.{then-is_first+in_ok-push, else-is_first}

pub loop-cell-preserved : goal.loop-cell-preserved
loop-cell-preserved c =
    let ms = c.args.mutants.now in
    let cell = c.loop-cell.cell in
    let order = c.loop-cell.order.items in
    let e : suc cell ≡ cell + 1 = omega arith in
    elim c.if-is_first.branch [
      | then-is_first+in_ok-push w ↦ rw (w.order-is, w.in_ok-push.ensures.items) (subst (λ n. AreFirsts ms n (order ++ cell ∷ [])) e (firsts_push ms order cell c.loop-cell.invariant (sym c.is_first.ensures ∙ w.if-is_first.true)))
      | else-is_first w ↦ rw w.order-is (subst (λ n. AreFirsts ms n order) e (firsts_pass ms order cell c.loop-cell.invariant (sym c.is_first.ensures ∙ w.if-is_first.false)))
    ]
