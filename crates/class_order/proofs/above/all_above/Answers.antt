use Rattle.std.proofs.Common.{◌≡◌, ◌∙◌, ◌++◌, ◌∷◌, ◌+◌, [], sym, subst, length, arith}
use Rattle.std.proofs.lemmas.Grind.{common_steps}
use Rattle.class_order.specs.Searches.{AreRowsTo}
use Rattle.class_order.proofs.Rows.{rows_next, rows_all}
use Rattle.class_order.proofs.above.all_above.Goals as goal

pub loop-class-preserved : goal.loop-class-preserved
loop-class-preserved c =
    let g = c.args.links.now in
    let found = c.args.found.now in
    let items : c.push.new.self.items ≡ c.loop-class.rows.items ++ c.in_ok-row.field-0 ∷ [] = grind (arith, common_steps) in
    record {
      marks = c.in_ok-row.ensures.marks;
      rows = subst (AreRowsTo g found (c.loop-class.class + 1)) (sym items) (rows_next g found c.loop-class.class c.loop-class.rows.items c.in_ok-row.field-0 c.loop-class.invariant.rows c.in_ok-row.ensures.row (c.in_ok-row.ensures.rank ∙ c.rank.ensures));
    }

pub returns : goal.returns
returns c =
    let g = c.args.links.now in
    let test = c.loop-class-test.false in
    let end = c.loop-class.auto.class-end in
    let few = c.requires.few in
    let all : c.loop-class.class ≡ length g = grind (arith, test, end, few) in
    rows_all g c.args.found.now c.loop-class.rows.items (subst (λ n. AreRowsTo g c.args.found.now n c.loop-class.rows.items) all c.loop-class.invariant.rows) c.requires.ranked
