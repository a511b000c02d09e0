use Rattle.std.proofs.Common.{rules}
use Rattle.std.specs.Int.{w32}
use Rattle.std.proofs.lemmas.Int.{to_z-of_z}
use mir.Val.{SFits}
use Rattle.jvm_rows.proofs.Seeking.{of_object, no_object}
use Rattle.jvm_rows.proofs.elements.find_element.Goals as goal

pub returns-in-Some : goal.returns-in-Some
returns-in-Some c =
    let f : SFits w32 c.args.index = search rules in
    of_object c.args.p.now c.args.world.now c.args.element c.args.index c.args.object c.in-Some.found.now c.element_in.result c.in-Some.ensures ((simp to_z-of_z at c.element_in.ensures) c.args.p.now)

pub returns-in-None : goal.returns-in-None
returns-in-None c = no_object c.args.p.now c.args.world.now c.args.element c.args.index c.args.object c.in-None.ensures
