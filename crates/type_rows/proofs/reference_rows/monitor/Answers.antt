use Rattle.std.proofs.Common.{◌≡◌, ◌∷◌, ◌++◌, ◌&&◌, refl, ap, sym, ◌∙◌}
use Rattle.std.specs.Prelude.{if◌then◌else◌}
use Rattle.program_rules.specs.Types as rules
use Rattle.type_rules.specs.References.{classes_of}
use Rattle.type_rules.specs.Assignability.{assignable}
use Rattle.type_rules.specs.Rows.{Falls, Stops, Fails, row, gives, takes, returns as returns_of, leads, has_kind, is_reference_kind}
use Rattle.class_table.specs.Table.{look}
use Rattle.vframes.specs.View.{type_of, types_in}
use Rattle.vframes.specs.FrameView.{types_of}
use Rattle.type_rows.specs.Sites.{leads_in}
use Rattle.type_rules.specs.Frames.{type_of as type_of_kind}
use Rattle.type_rows.specs.Items.{is_plain}
use Rattle.type_rows.proofs.Settings.{leads_is, room_is, args_at, call_ends, ends_full, ends_plain}
use Rattle.type_rows.proofs.reference_rows.monitor.Goals as goal

pub returns-in_default-clause-enter : goal.returns-in_default-clause-enter
unfolding row
returns-in_default-clause-enter c ns s at e = c.in_default.ensures.none ns _

pub returns-in_default-clause-exit : goal.returns-in_default-clause-exit
unfolding row
returns-in_default-clause-exit c ns s at e = c.in_default.ensures.none ns _

pub returns-clause-enter : goal.returns-clause-enter
unfolding row
returns-clause-enter c ns s at e = c.in-Some.ensures.some ns _

pub returns-clause-exit : goal.returns-clause-exit
unfolding row
returns-clause-exit c ns s at e = c.in-Some.ensures.some ns _
