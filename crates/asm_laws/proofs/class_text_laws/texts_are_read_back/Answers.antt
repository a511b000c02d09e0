use Rattle.asm_laws.proofs.Texts.{assembled}
use Rattle.asm_laws.proofs.class_text_laws.texts_are_read_back.Goals as goal

pub returns : goal.returns
returns c = assembled c.classes_are_read_back.ensures
