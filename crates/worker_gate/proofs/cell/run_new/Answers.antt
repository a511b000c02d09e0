use Rattle.std.proofs.Common.{◌∙◌, sym, ap, arith, ◌+◌, is_some, if◌then◌else◌}
use Rattle.worker_gate.proofs.cell.run_new.Goals as goal

pub returns-in_err-made-clause-most : goal.returns-in_err-made-clause-most
returns-in_err-made-clause-most g c = record {
  most = λ t is.
      let le = c.run.ensures.most.most t is in
      let same = ap (λ o. if is_some o then 0 else g.C.Hands.reading.steps t.made) (c.requires.none.finds t is) in
      omega (arith, le, same);
}

pub returns-clause-done : goal.returns-clause-done
returns-clause-done g c = record { done = λ t is. (c.requires.none.finds t is, c.in_ok-made.ensures.made.makes t is) }

pub returns-clause-counted : goal.returns-clause-counted
returns-clause-counted g c =
    let t = c.requires.cell.run in
    c.in_ok-made.ensures.steps.counts t c.requires.cell.is ∙ ap (λ r. c.args.part.now + g.C.Hands.reading.steps r) (sym (c.in_ok-made.ensures.made.makes t c.requires.cell.is))

pub returns-clause-most : goal.returns-clause-most
returns-clause-most g c = record {
  most = λ t is.
      let le = c.run.ensures.most.most t is in
      let same = ap (λ o. if is_some o then 0 else g.C.Hands.reading.steps t.made) (c.requires.none.finds t is) in
      omega (arith, le, same);
}
