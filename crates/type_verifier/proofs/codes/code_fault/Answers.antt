use Rattle.type_verifier.proofs.CodeLaws.{tables_last}
use Rattle.type_verifier.proofs.codes.code_fault.Goals as goal

pub returns-clause-tables : goal.returns-clause-tables
returns-clause-tables c = tables_last c.args.own.now c.args.tables.now c.parts_of.new.names c.requires.tables c.in_ok-parts.ensures.adds
