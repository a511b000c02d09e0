use Rattle.vframes.proofs.Sweeping.{open_are, later}
use Rattle.vframes.proofs.sweep.Sweep.go_to.Goals as goal

pub returns : goal.returns
returns c all h =
    let k = c.in_ok-open_up.ensures.kept all (c.close.ensures all h) in (
      open_are all _ _ c.args.at k.left (c.in_ok-open_up.ensures.all all (c.close.ensures all h)),
      record { left = later all _ _ c.args.at k.left; rising = k.rising },
    )
