use Rattle.std.proofs.Common.{◌≡◌, ◌∷◌, ◌++◌, ◌&&◌, refl, ap, sym, ◌∙◌}
use Rattle.std.specs.Prelude.{if◌then◌else◌}
use Rattle.program_rules.specs.Types as rules
use Rattle.type_rules.specs.References.{classes_of, dimensions}
use Rattle.std.specs.Prelude.{nat_le, nat_lt}
use Rattle.type_rules.specs.Assignability.{height}
use Rattle.type_rules.specs.Assignability.{assignable}
use Rattle.type_rules.specs.Rows.{Falls, Stops, Fails, row, gives, takes_such, is_array_of, has_room, allows, falls, takes, returns as returns_of, leads, has_kind, is_reference_kind}
use Rattle.class_table.specs.Table.{look}
use Rattle.vframes.specs.View.{type_of, types_in}
use Rattle.vframes.specs.FrameView.{types_of}
use Rattle.type_rows.specs.Sites.{leads_in}
use Rattle.type_rules.specs.Frames.{type_of as type_of_kind}
use Rattle.type_rows.specs.Items.{is_plain}
use Rattle.type_rows.proofs.Settings.{leads_is, room_is, args_at, call_ends, ends_full, ends_plain}
use Rattle.type_rows.proofs.array_rows.take_stored.Goals as goal

pub returns-in_default-clause-no : goal.returns-in_default-clause-no
unfolding row
returns-in_default-clause-no c r ns go = c.in_default.ensures.none ns (λ v below. go below)

pub returns-clause-yes : goal.returns-clause-yes
unfolding row
returns-clause-yes c r ns go = c.in-Some.ensures.some ns (λ v below. go below)
