use Rattle.jvm_link.proofs.references.References.class.Goals as goal

pub consult-requires-clause-class : goal.consult-requires-clause-class
consult-requires-clause-class c = (c.in-Some.ensures.named c.args.program.now c.args.name.now c.requires.table c.requires.entry).within

pub returns-in-Some-clause-answer : goal.returns-in-Some-clause-answer
returns-in-Some-clause-answer c = c.in-Some.ensures.named c.args.program.now c.args.name.now c.requires.table c.requires.entry

pub returns-in-Some-clause-consults : goal.returns-in-Some-clause-consults
returns-in-Some-clause-consults c = c.in_ok-consult.ensures c.args.name.now (c.in-Some.ensures.named c.args.program.now c.args.name.now c.requires.table c.requires.entry)
