use Rattle.std.proofs.Common.{rules, ◌≡◌, ◌∙◌, sym, true, false}
use Rattle.jvm_unwind.proofs.Tested.{covered, passed_over}
use Rattle.jvm_unwind.proofs.row.CatchRow.takes.Goals as goal

pub returns-then-not-covers-clause-row : goal.returns-then-not-covers-clause-row
returns-then-not-covers-clause-row c = let e : c.covers.result ≡ false = search rules in passed_over c.args.program.now c.args.thrown c.args.self.now c.args.at c.args.seen.now (sym (c.covers.ensures c.args.program.now) ∙ e)

pub returns-clause-row : goal.returns-clause-row
returns-clause-row c = let e : c.covers.result ≡ true = search rules in covered c.args.program.now c.args.thrown c.args.self.now c.args.at c.args.seen.now c.catches.new.seen c.in_ok-caught.caught (sym (c.covers.ensures c.args.program.now) ∙ e) (c.in_ok-caught.ensures.tests)
