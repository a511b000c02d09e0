use Rattle.class_table.specs.Table.{look}
use Rattle.suite_laws.specs.Witness.{sample_program}
use Rattle.suite_records.proofs.ordered_programs_are_there.Goals as goal

pub returns : goal.returns
returns c =
    let met = c.mutant_laws_are_of_use.ensures in
    let program = met.program in
    let mutant = met.safe in
    let safe = mutant.safe in
    record {
      ordered = record { present = program.present; kinds = safe.kinds; ranks = program.ranks };
      closed = c.ordered_walks_are_closed.ensures (look sample_program) program.ranks;
    }
