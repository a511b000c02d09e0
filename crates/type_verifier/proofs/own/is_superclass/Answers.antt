use Rattle.std.proofs.Common.{◌≡◌, ◌∙◌, sym, ap}
use Rattle.type_verifier.proofs.Owns.{above_interface, above_class, above_none}
use Rattle.type_verifier.proofs.own.is_superclass.Goals as goal

pub returns-then-is_interface : goal.returns-then-is_interface
returns-then-is_interface c =
    above_interface c.args.own.now c.args.name.now c.is_interface.result (c.is_interface.ensures c.args.name.now (sym c.in-Some.ensures.found)) c.if-is_interface.true

pub returns-else-is_interface : goal.returns-else-is_interface
returns-else-is_interface c =
    above_class c.args.own.now c.args.name.now c.in-Some.id c.is_interface.result c.is_below.result c.in-Some.ensures.found c.in-Some.ensures.within
    (c.is_interface.ensures c.args.name.now (sym c.in-Some.ensures.found)) c.if-is_interface.false
    (c.is_below.ensures c.args.own.now.name.now c.args.name.now c.requires.number (sym c.in-Some.ensures.found))

pub returns-in-None : goal.returns-in-None
returns-in-None c = above_none c.args.own.now c.args.name.now c.in-None.ensures.nothing
