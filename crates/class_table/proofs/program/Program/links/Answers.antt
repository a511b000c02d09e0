use Rattle.std.proofs.Common.{◌≡◌, ◌<◌, Some, sym, subst, length, slice_get, arith}
use Rattle.std.specs.Arc.{arc_value}
use Rattle.class_table.specs.declared.supers.Supers.{Supers}
use Rattle.class_table.specs.Table.{IsProgram}
use Rattle.class_table.specs.Supers.{AreSupers}
use Rattle.class_table.proofs.Visiting.{links_of_class}
use Rattle.class_table.proofs.program.Program.links.Goals as goal

pub links_at-requires : goal.links_at-requires
links_at-requires c =
    let p = c.args.self.now in
    let s = arc_value c.self.inside.supers in
    let are : AreSupers p s = subst (λ q. AreSupers q s) c.self.view_is c.self.invariant.2 in
    let each = are.links.each in
    let lt = c.requires in
    let here : c.args.id.0 < length s.links.items = omega (arith, each, lt) in
    subst (λ (t : Supers). c.args.id.0 < length t.links.items) (sym c.deref.ensures) here

pub returns : goal.returns
returns c =
    let p = c.args.self.now in
    let s = arc_value c.self.inside.supers in
    let ok : IsProgram p = subst IsProgram c.self.view_is c.self.invariant.0 in
    let are : AreSupers p s = subst (λ q. AreSupers q s) c.self.view_is c.self.invariant.2 in
    let there = subst (λ (t : Supers). slice_get t.links.items c.args.id.0 ≡ Some c.links_at.result.now) c.deref.ensures c.links_at.ensures in
    links_of_class p ok s c.args.id.0 c.links_at.result.now are c.requires there
