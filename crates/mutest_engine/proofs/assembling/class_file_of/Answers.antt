use Rattle.mutest_engine.proofs.AsmLaws.{class_spelled}
use Rattle.mutest_engine.proofs.assembling.class_file_of.Goals as goal

pub returns-in-Ok-clause-bytes : goal.returns-in-Ok-clause-bytes
returns-in-Ok-clause-bytes c = class_spelled c.args.text.now c.in-Ok.bytes (c.what_is_assembled_is_spelled.ensures c.args.text.now c.in-Ok.bytes c.in-Ok.ensures)
