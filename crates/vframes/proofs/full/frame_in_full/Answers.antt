use Rattle.std.proofs.Common.{◌≡◌, ◌∙◌, ap, sym}
use Rattle.vframes.proofs.StatedLaws.{in_full}
use Rattle.vframes.proofs.full.frame_in_full.Goals as goal

pub returns : goal.returns
returns c ns f h =
    in_full ns c.args.store.now c.args.max_locals c.args.stated.now f c.in_ok-locals.locals.items c.in_ok-stack.stack h (c.in_ok-locals.ensures ns) c.in_ok-stack.ensures
