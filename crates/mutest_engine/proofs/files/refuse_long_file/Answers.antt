use Rattle.mutest_engine.proofs.files.refuse_long_file.Goals as goal

pub returns-then-length-gt-CLASS_LIMIT-clause-refusal : goal.returns-then-length-gt-CLASS_LIMIT-clause-refusal
returns-then-length-gt-CLASS_LIMIT-clause-refusal c =
    let more = c.if-length-gt-CLASS_LIMIT.true in λ path. (more, more, more)
