use Rattle.mutest_engine.proofs.SeenLaws.{sees_held}
use Rattle.mutest_engine.proofs.running.what_is_held_is_seen.Goals as goal

pub returns : goal.returns
returns c = sees_held
