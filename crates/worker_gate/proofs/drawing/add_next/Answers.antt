use Rattle.std.proofs.Common.{◌≡◌, ◌∙◌, sym, ap, subst, suc, ◌+◌, [], ◌∷◌, ◌++◌, length, Some, slice_get, arith}
use Rattle.worker_gate.specs.Rounds.{Grows}
use Rattle.worker_gate.proofs.RoundLaws.{grow_past, grow_stop, grow_more}
use Rattle.worker_gate.proofs.drawing.add_next.Goals as goal
use Rattle.worker_gate.proofs.drawing.add_next.Goals.{then-drawn-len+then-goes_on+in_ok-push, then-drawn-len+else-goes_on, else-drawn-len}

pub loop-drawn-preserved : goal.loop-drawn-preserved
loop-drawn-preserved c =
    let ms = c.args.mutants.now in
    let d = c.loop-drawn.drawn in
    let order = c.loop-drawn.order.items in
    let long = c.len.ensures in
    let e : suc d ≡ d + 1 = omega arith in
    elim c.if-drawn-len.branch [
      | then-drawn-len+then-goes_on+in_ok-push w ↦
          let at : slice_get order d ≡ Some w.cell_at-cell.result = ap (λ l. slice_get l d) (sym w.as_slice.ensures.value) ∙ w.cell_at-cell.ensures in
          let more : w.cell_at-cell.result + 1 ≡ suc w.cell_at-cell.result = omega arith in
          rw (w.order-is, w.in_ok-push.ensures.items, more) (subst (λ n. Grows ms n (order ++ suc w.cell_at-cell.result ∷ [])) e (grow_more ms order d c.loop-drawn.invariant w.cell_at-cell.result at (sym w.goes_on.ensures ∙ w.if-goes_on.true)))
      | then-drawn-len+else-goes_on w ↦
          let at : slice_get order d ≡ Some w.cell_at-cell.result = ap (λ l. slice_get l d) (sym w.as_slice.ensures.value) ∙ w.cell_at-cell.ensures in
          rw w.order-is (subst (λ n. Grows ms n order) e (grow_stop ms order d c.loop-drawn.invariant w.cell_at-cell.result at (sym w.goes_on.ensures ∙ w.if-goes_on.false)))
      | else-drawn-len w ↦
          let past = w.if-drawn-len.false in
          rw w.order-is (subst (λ n. Grows ms n order) e (grow_past ms order d c.loop-drawn.invariant (omega (arith, past, long))))
    ]

pub returns : goal.returns
returns c =
    let ms = c.args.mutants.now in
    let past = c.loop-drawn-test.false in
    let most = c.loop-drawn.auto.drawn-end in
    let e : c.loop-drawn.drawn ≡ length ms = omega (arith, past, most) in
    subst (λ n. Grows ms n c.loop-drawn.order.items) e c.loop-drawn.invariant
