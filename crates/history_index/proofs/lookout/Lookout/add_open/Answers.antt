use Rattle.history_index.proofs.Adding.{miss_adds, none_adds}
use Rattle.history_index.proofs.lookout.Lookout.add_open.Goals as goal

pub returns-in_ok-add_whole-in-None : goal.returns-in_ok-add_whole-in-None
returns-in_ok-add_whole-in-None c = none_adds c.args.test c.args.place c.args.consulted.now c.args.self.now c.add_whole.new.self c.in-None.ensures c.in_ok-add_whole-in-None.ensures

pub returns-in_ok-add_apart-in-Some : goal.returns-in_ok-add_apart-in-Some
returns-in_ok-add_apart-in-Some c = miss_adds c.args.test c.args.place c.in-Some.miss c.args.consulted.now c.args.self.now c.add_apart.new.self c.in-Some.ensures c.in_ok-add_apart-in-Some.ensures
