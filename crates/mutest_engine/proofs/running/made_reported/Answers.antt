use Rattle.mutest_engine.proofs.running.made_reported.Goals as goal

pub returns : goal.returns
returns c = λ classes found.
    let is = c.input_of-input.ensures classes found in
    (λ i. record { input = is i; history = c.args.made.history; reused = c.args.made.reused })
