use Rattle.asm_laws.proofs.AnsweredLaws.{texts_have_one_answer}
use Rattle.asm_laws.proofs.texts_have_one_answer.Goals as goal

pub returns : goal.returns
returns c = texts_have_one_answer
