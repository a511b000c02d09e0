use Rattle.std.proofs.Common.{◌≡◌, ◌∷◌, ◌++◌, refl, ap, sym, ◌∙◌}
use Rattle.type_rules.specs.Rows.{row, gives}
use Rattle.vframes.specs.View.{type_of, types_in}
use Rattle.vframes.specs.FrameView.{types_of}
use Rattle.type_rows.proofs.local_rows.increment.Goals as goal

pub returns-then-reads_int : goal.returns-then-reads_int
unfolding row
returns-then-reads_int c z ns s at e = c.if-reads_int.ensures.yes refl ns _

pub returns-else-reads_int : goal.returns-else-reads_int
unfolding row
returns-else-reads_int c z ns s at e = c.if-reads_int.ensures.no refl ns _
