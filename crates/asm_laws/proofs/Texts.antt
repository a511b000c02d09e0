-- A text of a class's lines is assembled to that class.
use Rattle.std.proofs.Common.{◌∙◌, ap, ◌+◌, List, length}
use Rattle.std.specs.Prelude.{Result}
use Rattle.codec_rules.specs.Sequence.{◌>>=◌}
use Rattle.asm_words.specs.Lines.{pieces}
use Rattle.asm_words.specs.declared.line.Line.{Line}
use Rattle.asm_words.specs.declared.stated.StatedClass.{StatedClass}
use Rattle.class_asm.specs.Classes.{stated_by}
use Rattle.class_asm.specs.declared.class.End.{End}
use Rattle.class_asm.specs.declared.fault.AsmFault.{AsmFault}
use Rattle.class_asm.specs.Assembled.{AssembledClass, within_limits, no_entries}
use Rattle.class_asm.specs.ClassFile.{class_of}
use Rattle.asm_laws.specs.ClassStatement.{ClassesAreReadBack, TextsAreReadBack}

pub assembled : ClassesAreReadBack → TextsAreReadBack
unfolding AssembledClass
assembled back class text h lines =
    let last = length (pieces 10 text) + 1 in
    ap (λ (ls : List Line). stated_by last ls >>= λ x. within_limits (class_of x.0 no_entries) x.1) lines
    ∙ ap (λ (r : Result (StatedClass × End) AsmFault). r >>= λ x. within_limits (class_of x.0 no_entries) x.1) (back class last h)
