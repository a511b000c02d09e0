use Rattle.std.proofs.Common.{◌∙◌}
use Rattle.type_verifier.proofs.Lasting.{found, unfound}
use Rattle.type_verifier.proofs.names.Names.find.Goals as goal

pub returns-clause-some : goal.returns-clause-some
returns-clause-some c = found c.args.program.now c.args.self.now c.args.name.now c.copied.result c.requires (c.copied.ensures ∙ c.get.ensures.value)

pub returns-clause-none : goal.returns-clause-none
returns-clause-none c = unfound c.args.self.now c.args.name.now c.copied.result (c.copied.ensures ∙ c.get.ensures.value)
