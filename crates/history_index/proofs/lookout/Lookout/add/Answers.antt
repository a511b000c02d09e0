use Rattle.std.proofs.Common.{◌<◌, subst, sym}
use Rattle.history_index.specs.Lookouts.{AddsOpen, question_of}
use Rattle.history_index.proofs.Adding.{add_none, add_some, open_within}
use Rattle.history_index.proofs.lookout.Lookout.add.Goals as goal

pub add_open-requires-clause-tests : goal.add_open-requires-clause-tests
add_open-requires-clause-tests c = subst (λ m. c.in-Some.test < m) (sym c.requires.tests) (open_within c.args.index.now (question_of c.args.limits c.args.bounds.now) c.in-Some.test c.args.row.now c.in-Some.ensures)

pub returns-in_ok-add_open-in-Some : goal.returns-in_ok-add_open-in-Some
returns-in_ok-add_open-in-Some c = add_some c.args.index.now (question_of c.args.limits c.args.bounds.now) c.args.place c.in-Some.test c.args.row.now c.args.self.now c.add_open.new.self c.in-Some.ensures (subst (λ es. AddsOpen c.in-Some.test c.args.place es c.args.self.now c.add_open.new.self) c.as_slice.ensures c.in_ok-add_open-in-Some.ensures)

pub returns-in-None : goal.returns-in-None
returns-in-None c = add_none c.args.index.now (question_of c.args.limits c.args.bounds.now) c.args.place c.args.row.now c.args.self.now c.in-None.ensures
