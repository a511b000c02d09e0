use Rattle.std.proofs.Common.{rules, Ok, Err}
use Rattle.codec_rules.specs.Input.{IsBytes}
use Rattle.class_reader.specs.Reading.{class_of_file}
use Rattle.class_reader.proofs.FileLaws.{is_found, is_only}
use Rattle.class_model.specs.declared.fault.ClassFault.TheVariants as fault
use Rattle.class_reader.proofs.read.read_class.Goals as goal

pub returns-in_err-class-clause-exact : goal.returns-in_err-class-clause-exact
unfolding class_of_file
returns-in_err-class-clause-exact c = search rules

pub returns-then-left-eq0-clause-exact : goal.returns-then-left-eq0-clause-exact
unfolding class_of_file
returns-then-left-eq0-clause-exact c = search rules

pub returns-else-left-eq0-clause-exact : goal.returns-else-left-eq0-clause-exact
unfolding class_of_file
returns-else-left-eq0-clause-exact c = search rules

pub returns-in_err-class-clause-only : goal.returns-in_err-class-clause-only
returns-in_err-class-clause-only c = is_only c.args.bytes.now c.from_residual.result (returns-in_err-class-clause-exact c)

pub returns-then-left-eq0-clause-only : goal.returns-then-left-eq0-clause-only
returns-then-left-eq0-clause-only c = is_only c.args.bytes.now (Ok c.in_ok-class.class) (returns-then-left-eq0-clause-exact c)

pub returns-else-left-eq0-clause-only : goal.returns-else-left-eq0-clause-only
returns-else-left-eq0-clause-only c = is_only c.args.bytes.now (Err (fault.TrailingBytes c.at.result)) (returns-else-left-eq0-clause-exact c)

pub returns-then-left-eq0-clause-found : goal.returns-then-left-eq0-clause-found
returns-then-left-eq0-clause-found c =
    let known : IsBytes c.args.bytes.now = λ i. (c.type_inv.bytes i).fits in
    is_found c.args.bytes.now (Ok c.in_ok-class.class) known (returns-then-left-eq0-clause-exact c)
