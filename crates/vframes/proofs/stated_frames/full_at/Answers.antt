use Rattle.std.proofs.Common.{◌≡◌, ◌∙◌, sym, ap, Some, None}
use Rattle.std.specs.Option.{option_copied}
use Rattle.vframes.specs.FrameView.{types_of}
use Rattle.vframes.proofs.StatedTables.{full_some, full_none}
use Rattle.vframes.proofs.stated_frames.full_at.Goals as goal

pub returns-in_ok-frame-in-Some : goal.returns-in_ok-frame-in-Some
returns-in_ok-frame-in-Some c ns =
    full_some ns c.args.store.now c.args.max_locals c.args.frames.now c.args.at c.in-Some.stated.now (types_of ns c.in_ok-frame-in-Some.frame)
    c.requires (ap option_copied (sym c.in-Some.is) ∙ c.stated_at.ensures) (c.in_ok-frame-in-Some.ensures ns)

pub returns-in-None : goal.returns-in-None
returns-in-None c ns =
    full_none ns c.args.store.now c.args.max_locals c.args.frames.now c.args.at (ap option_copied (sym c.in-None.is) ∙ c.stated_at.ensures)
