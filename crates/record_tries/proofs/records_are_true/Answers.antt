use Rattle.record_tries.proofs.True.{passed_true, failed_true, timed_out_true, full_true, absent_true}
use Rattle.record_tries.proofs.records_are_true.Goals as goal

pub returns : goal.returns
returns c = record { passed = passed_true; failed = failed_true; timed_out = timed_out_true; full = full_true; absent = absent_true }
