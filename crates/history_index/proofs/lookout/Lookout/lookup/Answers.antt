use Rattle.std.proofs.Common.{sym, subst}
use Rattle.history_index.specs.Lookouts.{FindsFirst}
use Rattle.history_index.proofs.Looking.{found_told}
use Rattle.history_index.proofs.lookout.Lookout.lookup.Goals as goal

pub returns : goal.returns
returns c n q s x out asked = subst (FindsFirst n.history x) (sym c.place_told-place.ensures) (found_told n q s c.args.test c.args.swap c.args.self.now x out asked)
