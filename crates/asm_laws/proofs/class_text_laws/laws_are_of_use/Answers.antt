use Rattle.asm_laws.proofs.WitnessLaws.{class_has_text, is_written}
use Rattle.asm_laws.proofs.class_text_laws.laws_are_of_use.Goals as goal

pub returns-clause-text : goal.returns-clause-text
returns-clause-text c = class_has_text

pub returns-clause-written : goal.returns-clause-written
returns-clause-written c = is_written
