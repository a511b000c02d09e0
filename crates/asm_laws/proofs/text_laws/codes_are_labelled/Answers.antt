use Rattle.asm_laws.proofs.LabelLaws.{codes_are_labelled}
use Rattle.asm_laws.proofs.text_laws.codes_are_labelled.Goals as goal

pub returns : goal.returns
returns c = codes_are_labelled
