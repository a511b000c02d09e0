use Rattle.std.proofs.Common.{Result, subst}
use Rattle.mutest_engine.specs.Steps.{Gives}
use Rattle.mutest_engine.specs.declared.refusal.Refusal.{Refusal}
use Rattle.mutest_engine.specs.declared.suite.LoadedSuite.{LoadedSuite}
use Rattle.mutest_engine.proofs.GeneratedLaws.{generated_is}
use Rattle.mutest_engine.proofs.generated.generated.Goals as goal

pub made_suite-requires : goal.made_suite-requires
made_suite-requires c = let classes = c.requires.classes in classes.most_is

pub returns-clause-value : goal.returns-clause-value
returns-clause-value c =
    subst (λ (stated : Result LoadedSuite Refusal). Gives stated c.read_files.result)
    (generated_is c.what_is_assembled_is_spelled.ensures c.args.options.classes c.in_ok-suite.suite c.in_ok-suite.ensures) c.read_files.ensures.value
