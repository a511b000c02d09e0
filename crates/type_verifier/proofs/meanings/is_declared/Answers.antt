use Rattle.std.proofs.Common.{◌∙◌, sym}
use Rattle.type_verifier.proofs.Owns.{declared_own, declared_not}
use Rattle.type_verifier.proofs.meanings.is_declared.Goals as goal

pub returns-then-not-is_own-clause-declared : goal.returns-then-not-is_own-clause-declared
returns-then-not-is_own-clause-declared c = declared_not c.args.own.now c.args.r.now (c.requires.own ∙ c.if-not-is_own.true)

pub returns-clause-declared : goal.returns-clause-declared
returns-clause-declared c =
    declared_own c.args.own.now c.args.r.now c.in_ok-declared.declared (c.requires.own ∙ c.if-not-is_own.false) (sym c.in_ok-declared.ensures.declares)
