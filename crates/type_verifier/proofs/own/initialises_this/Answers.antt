use Rattle.std.proofs.Common.{◌≡◌, ◌∙◌, sym, ap}
use Rattle.type_verifier.proofs.Owns.{this_same, this_parent}
use Rattle.type_verifier.proofs.own.initialises_this.Goals as goal

pub returns-then-eq : goal.returns-then-eq
returns-then-eq c = this_same c.args.own.now c.args.name.now (sym c.eq.ensures ∙ c.if-eq.true)

pub returns : goal.returns
returns c = this_parent c.args.own.now c.args.name.now c.is_parent.result (sym c.eq.ensures ∙ c.if-eq.false) c.is_parent.ensures
