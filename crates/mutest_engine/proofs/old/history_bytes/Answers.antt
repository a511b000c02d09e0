use Rattle.mutest_engine.proofs.ReadLaws.{some_path}
use Rattle.mutest_engine.proofs.old.history_bytes.Goals as goal

pub returns-in-Some-clause-none : goal.returns-in-Some-clause-none
returns-in-Some-clause-none g c = rw c.in-Some.is (some_path c.in-Some.path.now c.history_at.result)
