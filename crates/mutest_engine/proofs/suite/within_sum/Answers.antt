use Rattle.mutest_engine.proofs.suite.within_sum.Goals as goal

pub returns-then-sum-gt-BYTES_LIMIT-clause-refusal : goal.returns-then-sum-gt-BYTES_LIMIT-clause-refusal
returns-then-sum-gt-BYTES_LIMIT-clause-refusal c = c.if-sum-gt-BYTES_LIMIT.true

pub returns-clause-few : goal.returns-clause-few
returns-clause-few c = c.if-sum-gt-BYTES_LIMIT.false
