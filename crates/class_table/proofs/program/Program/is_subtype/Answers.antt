use Rattle.std.proofs.Common.{◌↔◌, sym, subst}
use Rattle.std.specs.Prelude.{IsTrue}
use Rattle.std.specs.Arc.{arc_value}
use Rattle.class_order.specs.Above.{AreFalling, IsOver}
use Rattle.class_table.specs.declared.supers.Supers.{Supers}
use Rattle.class_table.specs.Table.{IsProgram}
use Rattle.class_table.specs.Supers.{AreSupers}
use Rattle.class_table.proofs.Subtypes.{subtype_is}
use Rattle.class_table.proofs.program.Program.is_subtype.Goals as goal

pub stands_below-requires : goal.stands_below-requires
stands_below-requires c = subst (λ (s : Supers). AreFalling s.above.items) (sym c.deref.ensures) c.self.invariant.2.rows.falls

pub returns : goal.returns
returns c =
    let p = c.args.self.now in
    let s = arc_value c.self.inside.supers in
    let ok : IsProgram p = subst IsProgram c.self.view_is c.self.invariant.0 in
    let are : AreSupers p s = subst (λ q. AreSupers q s) c.self.view_is c.self.invariant.2 in
    let over = subst (λ (t : Supers). IsTrue c.stands_below.result ↔ IsOver t.above.items c.args.class.0 c.args.over.0) c.deref.ensures c.stands_below.ensures in
    subtype_is p s c.args.class.0 c.args.over.0 c.stands_below.result ok are c.requires.class c.requires.over over
