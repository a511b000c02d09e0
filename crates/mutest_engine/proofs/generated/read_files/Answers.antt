use Rattle.mutest_engine.proofs.RefusalLaws.{of_loaded}
use Rattle.mutest_engine.proofs.generated.read_files.Goals as goal

pub returns-clause-refusal : goal.returns-clause-refusal
returns-clause-refusal c = of_loaded c.load_both.result c.load_both.ensures.refusal
