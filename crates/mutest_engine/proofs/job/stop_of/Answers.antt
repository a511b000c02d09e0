use Rattle.std.proofs.Common.{◌≡◌, ◌∙◌, subst, sym}
use Rattle.suite_runs.specs.Below.{JobRefusal}
use Rattle.suite_runs.specs.declared.fault.JobFault.TheVariants as job_fault
use Rattle.mutest_engine.specs.Jobs.{refusal_of}
use Rattle.mutest_engine.specs.Steps.{Refuses}
use Rattle.mutest_engine.proofs.job.stop_of.Goals as goal

pub returns-in-Refused-clause-refused : goal.returns-in-Refused-clause-refused
returns-in-Refused-clause-refused c = λ q e.
    let both : job_fault.Refused c.in-Refused.refusal ≡ job_fault.Refused q = sym c.in-Refused.is ∙ e in
    let same : c.in-Refused.refusal ≡ q = cc in
    subst (λ (x : JobRefusal). Refuses (λ r. r ≡ refusal_of c.args.tests.now x) c.refusal_of.result) same c.refusal_of.ensures
