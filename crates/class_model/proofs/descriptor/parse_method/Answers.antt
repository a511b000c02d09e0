use Rattle.std.proofs.Common.{sym}
use Rattle.class_model.proofs.Verdicts.{method_found, method_float, method_bad}
use Rattle.class_model.proofs.descriptor.parse_method.Goals as goal

pub returns-clause-found : goal.returns-clause-found
returns-clause-found c = method_found c.args.desc.now c.read_method.result (rw (sym c.as_slice.ensures) c.read_method.ensures)

pub returns-clause-float : goal.returns-clause-float
returns-clause-float c = method_float c.args.desc.now c.read_method.result (rw (sym c.as_slice.ensures) c.read_method.ensures)

pub returns-clause-bad : goal.returns-clause-bad
returns-clause-bad c = method_bad c.args.desc.now c.read_method.result (rw (sym c.as_slice.ensures) c.read_method.ensures)
