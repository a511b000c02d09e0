use Rattle.std.proofs.Common.{refl, sym, subst}
use Rattle.type_verifier.specs.Standing.{AreFirst}
use Rattle.type_verifier.proofs.CodeLaws.{first_are, expansion_is}
use Rattle.type_verifier.proofs.codes.expansion_of.Goals as goal

pub expand-expansion-requires : goal.expand-expansion-requires
expand-expansion-requires c =
    subst (AreFirst _) (sym c.deref.ensures.value)
    (first_are c.args.own.now c.args.method.now c.args.code.now c.args.names.now c.args.parts.now _ refl c.is_init.ensures c.requires.parts c.requires.fit)

pub returns : goal.returns
returns c =
    expansion_is c.args.own.now c.args.method.now c.args.code.now c.args.names.now c.args.parts.now _ _ _ c.expand-expansion.result
    c.expand-expansion.ensures refl refl c.is_init.ensures c.deref.ensures.value c.deref-2.ensures.value c.requires.parts
