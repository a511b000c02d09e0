use Rattle.std.proofs.Common.{◌∙◌, sym, ap, arith, [], ◌∷◌, ◌++◌}
use Rattle.class_table.specs.Table.{names}
use Rattle.jvm_natives.proofs.Found.{one_more}
use Rattle.jvm_natives.proofs.natives.names_of.Goals as goal

pub loop-at-preserved : goal.loop-at-preserved
loop-at-preserved c =
    let n = c.in_ok-name.name in
    let lt = c.loop-at-test.true in
    record {
      list = c.in_ok-push.ensures.items ∙ ap (λ ns. ns ++ n ∷ []) c.loop-at.invariant.list
          ∙ sym (one_more (names c.args.p.now) c.loop-at.at n c.in_ok-name.ensures);
      within = omega (arith, lt);
    }
