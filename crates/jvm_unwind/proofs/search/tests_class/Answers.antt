use Rattle.class_table.specs.Table.{name_at}
use Rattle.jvm_unwind.proofs.Tested.{tested}
use Rattle.jvm_unwind.proofs.search.tests_class.Goals as goal

pub returns-clause-tests : goal.returns-clause-tests
returns-clause-tests c names above w to rest = tested c.args.program.now (name_at c.args.program.now c.args.class.0) names c.args.seen.now c.consult.new.seen c.is_above.result c.requires.class.1 c.requires.class.2 (c.is_above.ensures names above) c.in_ok-consult.ensures.names w to rest
