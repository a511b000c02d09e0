use Rattle.std.proofs.Common.{◌∙◌, ap}
use Rattle.job_journal.specs.Adding.{first_number}
use Rattle.job_journal.proofs.Numbered.{none_zero}
use Rattle.job_journal.proofs.written.number_of.Goals as goal

pub returns-in-None-number : goal.returns-in-None-number
returns-in-None-number c =
    none_zero c.args.numbers.now c.args.class.now _ c.in-Some.is (c.in-None-number.ensures.number ∙ ap (first_number c.args.numbers.now) c.as_slice.ensures) c.requires
