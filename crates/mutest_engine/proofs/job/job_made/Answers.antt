use Rattle.mutest_engine.proofs.JobLaws.{job_gives, job_lost, job_meters, job_refuses, job_stops, job_writable}
use Rattle.mutest_engine.proofs.job.job_made.Goals as goal

pub made_of-requires : goal.made_of-requires
made_of-requires g c = job_writable c.args.program.now c.args.job.now c.args.old c.requires.files c.in-Ok.done (c.in-Ok.ensures.ends c.requires.files c.requires.suite)

pub returns-in-Ok-clause-value : goal.returns-in-Ok-clause-value
returns-in-Ok-clause-value g c = λ files suite.
    job_gives c.args.program.now c.args.job.now c.args.old files c.in-Ok.done c.made_of.result (c.in-Ok.ensures.ends files suite) c.made_of.ensures.value

pub returns-in-Ok-clause-meter : goal.returns-in-Ok-clause-meter
returns-in-Ok-clause-meter g c = λ files suite.
    job_meters c.args.program.now c.args.job.now c.args.old files c.args.meter.now c.run_job.new.meter c.in-Ok.done c.made_of.result c.requires.some_workers (c.in-Ok.ensures.meter files suite)

pub returns-in-Err-clause-value : goal.returns-in-Err-clause-value
returns-in-Err-clause-value g c = λ files suite.
    job_stops c.args.program.now c.args.job.now c.args.old files c.in-Err.fault c.stop_of.result (c.in-Err.ensures.ends files suite) (record { refused = c.stop_of.ensures.refused; lost = c.stop_of.ensures.lost })

pub returns-in-Err-clause-meter : goal.returns-in-Err-clause-meter
returns-in-Err-clause-meter g c = λ files suite.
    job_lost c.args.program.now c.args.job.now c.args.old files c.args.meter.now c.run_job.new.meter c.in-Err.fault c.stop_of.result c.requires.some_workers (c.in-Err.ensures.meter files suite) (record { refused = c.stop_of.ensures.refused; lost = c.stop_of.ensures.lost })

pub returns-in-Err-clause-refusal : goal.returns-in-Err-clause-refusal
returns-in-Err-clause-refusal g c =
    job_refuses c.args.program.now c.args.job.now c.args.old c.requires.files c.in-Err.fault c.stop_of.result (c.in-Err.ensures.ends c.requires.files c.requires.suite) (record { refused = c.stop_of.ensures.refused; lost = c.stop_of.ensures.lost })
