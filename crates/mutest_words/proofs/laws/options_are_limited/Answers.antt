use Rattle.mutest_words.proofs.Limits.{command_limited, suite_small}
use Rattle.mutest_words.proofs.laws.options_are_limited.Goals as goal

pub returns-clause-run : goal.returns-clause-run
returns-clause-run c = λ words o h. command_limited words o h

pub returns-clause-generate : goal.returns-clause-generate
returns-clause-generate c = λ words o h. suite_small words o h
