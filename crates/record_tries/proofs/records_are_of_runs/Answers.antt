use Rattle.record_tries.proofs.True.{passed_run, failed_run, timed_out_run, absent_run, full_run}
use Rattle.record_tries.proofs.records_are_of_runs.Goals as goal

pub returns : goal.returns
returns c = record { passed = passed_run; failed = failed_run; timed_out = timed_out_run; full = full_run; absent = absent_run }
