use Rattle.std.proofs.Common.{◌≡◌, true, false, sym, ◌∙◌}
use Rattle.std.proofs.lemmas.Result.{IfOk-weaker}
use Rattle.type_rules.specs.Rows.{row}
use Rattle.type_rows.specs.Sites.{SpecialIs, SpecialIf}
use Rattle.type_rows.proofs.special_rows.call_special.Goals as goal

pub returns-then-is_init : goal.returns-then-is_init
unfolding row
returns-then-is_init c =
    IfOk-weaker c.call_initializer.result (λ a. SpecialIf true c.args.site.now c.args.method.now c.args.f.now a c.call_initializer.new.f)
    (λ a. SpecialIs c.args.site.now c.args.method.now c.args.f.now a c.call_initializer.new.f)
    (λ a h s at r x i k. h s r x i k (i.init ∙ sym c.if-is_init.ensures)) c.call_initializer.ensures

pub returns-else-is_init : goal.returns-else-is_init
unfolding row
returns-else-is_init c =
    IfOk-weaker c.call_near.result (λ a. SpecialIf false c.args.site.now c.args.method.now c.args.f.now a c.call_near.new.f)
    (λ a. SpecialIs c.args.site.now c.args.method.now c.args.f.now a c.call_near.new.f)
    (λ a h s at r x i k. h s r x i k (i.init ∙ sym c.if-is_init.ensures)) c.call_near.ensures
