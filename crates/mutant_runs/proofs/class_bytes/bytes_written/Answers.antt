use Rattle.std.proofs.Common.{◌∙◌, ap, Err}
use Rattle.mutant_runs.proofs.EditLaws.{never_large}
use Rattle.mutant_runs.proofs.class_bytes.bytes_written.Goals as goal

pub unreachable-requires : goal.unreachable-requires
unreachable-requires c =
    never_large c.args.class.now c.write_class.result c.in-Err-TooLarge.field-0-0
    c.what_is_spelled_is_written.ensures c.requires.spelled c.write_class.ensures
    (c.in-Err-TooLarge.is ∙ ap Err c.in-Err-TooLarge.field-0-is)
