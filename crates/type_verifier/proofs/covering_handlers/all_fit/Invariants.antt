use Rattle.std.proofs.Common.{◌≡◌, length, map}
use Rattle.type_rules.specs.Rows.{Setting}
use Rattle.vframes.specs.FrameView.{types_of}
use Rattle.type_rows.specs.Sites.{IsSettingOf}
use Rattle.type_verifier.specs.Handlers.{HasLocalsOf, all_fit, caught_in}
use Rattle.type_verifier.proofs.covering_handlers.all_fit.Given as goal

abbrev pub invariant-loop-left : goal.invariant-loop-left
invariant-loop-left l =
    HasLocalsOf l.fn.f l.f
    × ((s : Setting) → IsSettingOf s l.site
    → all_fit s l.at (types_of l.site.names.now l.fn.f) (map (caught_in l.site.names.now) l.fn.handlers)
    ≡ all_fit s l.at (types_of l.site.names.now l.fn.f) (map (caught_in l.site.names.now) l.left))

abbrev pub decreases-loop-left : goal.decreases-loop-left
decreases-loop-left l = length l.left
