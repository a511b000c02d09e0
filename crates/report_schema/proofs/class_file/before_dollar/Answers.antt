use Rattle.std.proofs.Common.{sym}
use Rattle.report_schema.specs.FileKey.{is_dollar}
use Rattle.report_schema.proofs.Positions.{found, none}
use Rattle.report_schema.proofs.class_file.before_dollar.Goals as goal

pub returns-in-Some : goal.returns-in-Some
returns-in-Some c = found is_dollar c.args.name.now c.in-Some.end (sym c.in-Some.ensures.first)

pub returns-in-None : goal.returns-in-None
returns-in-None c = none is_dollar c.args.name.now (sym c.in-None.ensures.first)
