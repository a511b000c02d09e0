use Rattle.std.proofs.Common.{◌≡◌, ◌∙◌, ◌<◌, ◌^◌, ◌++◌, ℕ, List, length, ap, subst, sym, arith}
use Rattle.history_rules.specs.Items.{counted_bytes}
use Rattle.history_rules.specs.Classes.{class_bytes}
use Rattle.history_file.specs.Writing.{AreShort, used_by}
use Rattle.history_file.proofs.Spelled.{then_written}
use Rattle.history_file.proofs.write.put_history.Goals as goal

pub put_classes-requires-clause-few : goal.put_classes-requires-clause-few
put_classes-requires-clause-few c =
    let a = c.requires.order.unused in
    let b = c.requires.order.few in
    let few : length (used_by c.args.order.now) < 2 ^ 32 = omega (arith, a, b) in
    subst (λ (cs : List (List ℕ)). length cs < 2 ^ 32) (sym c.used.ensures) few

pub put_classes-requires-clause-short : goal.put_classes-requires-clause-short
put_classes-requires-clause-short c = subst AreShort (sym c.used.ensures) c.requires.short

pub returns : goal.returns
returns c =
    let classes : c.put_classes.new.out ≡ c.put_u2-2.new.out ++ counted_bytes class_bytes (used_by c.args.order.now) = c.in_ok-put_classes.ensures ∙ ap (λ (cs : List (List ℕ)). c.put_u2-2.new.out ++ counted_bytes class_bytes cs) c.used.ensures in
    then_written c.args.out.now c.put_u4.new.out c.put_rows.new.out _ _ c.in_ok-put_u4.ensures.ok
    (then_written c.put_u4.new.out c.put_u2.new.out c.put_rows.new.out _ _ c.in_ok-put_u2.ensures.ok
    (then_written c.put_u2.new.out c.put_u2-2.new.out c.put_rows.new.out _ _ c.in_ok-put_u2-2.ensures.ok
    (then_written c.put_u2-2.new.out c.put_classes.new.out c.put_rows.new.out _ _ classes c.in_ok-put_rows.ensures)))
