use Rattle.std.proofs.Common.{◌≡◌, ◌∙◌, sym, ap, List, map, length, slice_get, slice_set, arith, subst}
use Rattle.std.specs.Arc.{arc_value}
use Rattle.std.proofs.lemmas.List.{with_items_is}
use Rattle.class_link.specs.Info.{Info, IsInfo}
use Rattle.class_table.specs.Table.{IsProgram}
use Rattle.class_table.specs.Numbers.{IsNumbering}
use Rattle.class_table.specs.Supers.{AreSupers}
use Rattle.class_table.proofs.Places.{swap_names, numbers_kept}
use Rattle.class_table.proofs.Swapping.{swap_program, swap_supers}
use Rattle.class_table.proofs.program.Program.swap.Goals as goal

abbrev before : (c : goal.After-self-1) → map (λ i. arc_value i) c.deref_mut.result.now ≡ c.args.self.now
before c = ap (map (λ i. arc_value i)) c.deref_mut.ensures.value ∙ c.self.view_is

abbrev after : (c : goal.After-self-1) → map (λ i. arc_value i) c.put.new.classes ≡ slice_set c.args.self.now c.args.id.0 (arc_value c.args.with)
after c = c.put.ensures.program ∙ ap (λ p. slice_set p c.args.id.0 (arc_value c.args.with)) (before c)

long : (c : goal.After-self-1) → length c.put.new.classes ≡ c.self.inside.classes.len
long c = grind (arith, c.put.auto.classes, c.deref_mut.ensures.value, c.deref_mut.ensures.len, c.self.inside.classes.ok.0)

pub invariant_of-self : goal.invariant_of-self
invariant_of-self c =
    let p = c.args.self.now in
    let with = arc_value c.args.with in
    let names-same = swap_names p c.args.id.0 with c.requires in
    let P : List Info → Type 0 = λ p. IsProgram p × IsNumbering (arc_value c.self.inside.numbers) p × AreSupers p (arc_value c.self.inside.supers) in
    let was : P p = subst P c.self.view_is c.self.invariant in
    let meant : IsInfo with = subst IsInfo c.deref.ensures c.meant.ensures in
    let kept : P (slice_set p c.args.id.0 with) = (swap_program p c.args.id.0 with c.requires was.0 meant, numbers_kept (arc_value c.self.inside.numbers) p (slice_set p c.args.id.0 with) names-same was.1, swap_supers p c.args.id.0 with c.requires (arc_value c.self.inside.supers) was.2) in
    subst (λ xs. P (map (λ i. arc_value i) xs)) (sym (with_items_is c.self.inside.classes c.put.new.classes (long c))) (subst P (sym (after c)) kept)

pub returns-clause-program : goal.returns-clause-program
returns-clause-program c = ap (map (λ i. arc_value i)) (with_items_is c.self.inside.classes c.put.new.classes (long c)) ∙ after c

pub returns-clause-other : goal.returns-clause-other
returns-clause-other c = ap (λ p. slice_get p c.args.id.0) (sym (before c)) ∙ c.put.ensures.other
