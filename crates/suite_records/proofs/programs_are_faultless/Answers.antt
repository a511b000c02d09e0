use Rattle.suite_records.proofs.Faultless.{faultless, true_faultless}
use Rattle.suite_records.proofs.programs_are_faultless.Goals as goal

pub returns : goal.returns
returns c = record {
  same = faultless;
  records = true_faultless;
}
