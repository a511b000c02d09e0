use Rattle.std.proofs.Common.{◌∙◌, sym}
use Rattle.history_index.proofs.Lengths.{one_kept, one_set}
use Rattle.history_index.proofs.lookout.lengthen_one.Goals as goal

pub returns-then-not-is_run : goal.returns-then-not-is_run
returns-then-not-is_run c = one_kept c.args.test c.args.before c.args.after c.args.name c.args.runs.now (sym c.is_run.ensures ∙ c.if-not-is_run.true)

pub returns : goal.returns
returns c = one_set c.args.test c.args.before c.args.after c.args.name c.args.runs.now c.set.new.self (sym c.is_run.ensures ∙ c.if-not-is_run.false) c.in_ok-set.ensures
