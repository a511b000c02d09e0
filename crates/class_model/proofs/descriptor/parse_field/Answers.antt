use Rattle.std.proofs.Common.{sym}
use Rattle.class_model.proofs.Verdicts.{field_found, field_float, field_bad}
use Rattle.class_model.proofs.descriptor.parse_field.Goals as goal

pub returns-clause-found : goal.returns-clause-found
returns-clause-found c = field_found c.args.desc.now c.read_field.result (rw (sym c.as_slice.ensures) c.read_field.ensures)

pub returns-clause-float : goal.returns-clause-float
returns-clause-float c = field_float c.args.desc.now c.read_field.result (rw (sym c.as_slice.ensures) c.read_field.ensures)

pub returns-clause-bad : goal.returns-clause-bad
returns-clause-bad c = field_bad c.args.desc.now c.read_field.result (rw (sym c.as_slice.ensures) c.read_field.ensures)
