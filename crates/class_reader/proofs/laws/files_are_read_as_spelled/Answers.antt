use Rattle.std.proofs.Common.{sym, ◌∙◌}
use Rattle.codec_rules.proofs.Sequence.{ok_is}
use Rattle.class_model.specs.declared.fault.ClassFault.{ClassFault}
use Rattle.class_reader.proofs.FileLaws.{found, only}
use Rattle.class_reader.proofs.laws.files_are_read_as_spelled.Goals as goal

pub returns-clause-read : goal.returns-clause-read
returns-clause-read c = λ bytes class known. (found bytes class known, only bytes class)

pub returns-clause-one_class : goal.returns-clause-one_class
returns-clause-one_class c = λ bytes one other p q. ok_is {F = ClassFault} one other (sym (only bytes one p) ∙ only bytes other q)

pub returns-clause-one_spelling : goal.returns-clause-one_spelling
returns-clause-one_spelling c = λ one other class p q. p.text ∙ sym q.text
