use Rattle.machine_answers.proofs.runs.record.Goals as goal

pub returns : goal.returns
returns c = record { tables = c.make_record-made.ensures.tables }
