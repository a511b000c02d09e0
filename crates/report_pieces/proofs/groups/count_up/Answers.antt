use Rattle.std.proofs.Common.{◌++◌, ◌+◌, ◌-◌, ◌∙◌, ap}
use Rattle.report_pieces.specs.Groups.{count_from}
use Rattle.report_pieces.proofs.Growing.{counted}
use Rattle.report_pieces.proofs.groups.count_up.Goals as goal

pub loop-place-preserved : goal.loop-place-preserved
loop-place-preserved c =
    ap (λ xs. xs ++ count_from (c.loop-place.place + 1) (c.args.end - (c.loop-place.place + 1))) c.in_ok-push.ensures.items
    ∙ counted c.loop-place.places.items c.loop-place.place c.args.end c.loop-place-test.true
    ∙ c.loop-place.invariant
