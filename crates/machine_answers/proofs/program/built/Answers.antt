use Rattle.class_table.specs.Table.{bodies_of}
use Rattle.machine_answers.proofs.RightKinds.{right_kinds}
use Rattle.machine_answers.proofs.program.built.Goals as goal

pub returns : goal.returns
returns c =
    right_kinds c.build.result (bodies_of c.args.files c.args.library) c.build.ensures.program c.build.ensures.looks
