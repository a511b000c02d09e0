use Rattle.std.proofs.Common.{◌≡◌, ◌∙◌, ◌++◌, ◌-◌, List, reverse, replicate, take, length, ap, sym, arith}
use Rattle.std.proofs.lemmas.Grind.{common_steps}
use Rattle.type_rules.specs.Frames.{with_tops}
use Rattle.vframes.specs.View.{types_in}
use Rattle.vframes.specs.declared.slot_type.SlotType.TheVariants as slot
use Rattle.vframes.proofs.StatedLaws.{resized}
use Rattle.vframes.proofs.full.locals_in_full.Goals as goal

pub returns : goal.returns
returns c ns ts h within =
    let all = c.in_ok-all.all.items in
    let new : c.resize.new.self.items ≡ take c.args.max all ++ replicate (c.args.max - length all) slot.Top = grind (arith, common_steps, c.in_ok-resize.ensures.items) in
    resized ns c.args.max ts all c.resize.new.self.items within
    (c.in_ok-all.ensures ns ∙ ap (λ d. with_tops (types_in ns (reverse d))) (c.in_ok-down.ensures ts h)) new
