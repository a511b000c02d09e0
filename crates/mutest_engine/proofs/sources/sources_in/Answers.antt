use Rattle.mutest_engine.proofs.SourceLaws.{some_folder}
use Rattle.mutest_engine.proofs.sources.sources_in.Goals as goal

pub returns-in-Some-clause-named : goal.returns-in-Some-clause-named
returns-in-Some-clause-named g c = rw c.in-Some.is (some_folder c.in-Some.folder.now c.sources_below.result)
