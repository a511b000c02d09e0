use Rattle.std.proofs.Common.{◌≡◌, ◌∷◌, ◌++◌, ◌&&◌, refl, ap, sym, ◌∙◌}
use Rattle.std.specs.Prelude.{if◌then◌else◌}
use Rattle.program_rules.specs.Types as rules
use Rattle.type_rules.specs.References.{classes_of, dimensions}
use Rattle.std.specs.Prelude.{nat_le, nat_lt}
use Rattle.type_rules.specs.Assignability.{height}
use Rattle.type_rules.specs.Assignability.{assignable}
use Rattle.type_rules.specs.Rows.{Falls, Stops, Fails, row, gives, takes_such, is_array_of, has_room, allows, falls, takes, returns as returns_of, leads, has_kind, is_reference_kind}
use Rattle.class_table.specs.Table.{look}
use Rattle.vframes.specs.View.{type_of, types_in}
use Rattle.vframes.specs.FrameView.{types_of}
use Rattle.type_rows.specs.Sites.{leads_in}
use Rattle.type_rules.specs.Frames.{type_of as type_of_kind}
use Rattle.type_rows.specs.Items.{is_plain}
use Rattle.type_rows.proofs.Settings.{leads_is, room_is, args_at, call_ends, ends_full, ends_plain}
use Rattle.type_rows.proofs.array_rows.take_element.Goals as goal

pub returns-in-LongElement-clause-yes : goal.returns-in-LongElement-clause-yes
unfolding row
returns-in-LongElement-clause-yes c r ns go = rw c.in-LongElement.is (c.take_long.ensures.yes r ns go)

pub returns-in-LongElement-clause-no : goal.returns-in-LongElement-clause-no
unfolding row
returns-in-LongElement-clause-no c r ns go = rw c.in-LongElement.is (c.take_long.ensures.no r ns go)

pub returns-in-ReferenceElement-clause-yes : goal.returns-in-ReferenceElement-clause-yes
unfolding row
returns-in-ReferenceElement-clause-yes c r ns go = rw c.in-ReferenceElement.is (c.take_stored.ensures.yes r ns go)

pub returns-in-ReferenceElement-clause-no : goal.returns-in-ReferenceElement-clause-no
unfolding row
returns-in-ReferenceElement-clause-no c r ns go = rw c.in-ReferenceElement.is (c.take_stored.ensures.no r ns go)

pub returns-in-IntElement-clause-yes : goal.returns-in-IntElement-clause-yes
unfolding row
returns-in-IntElement-clause-yes c r ns go = rw c.in-IntElement.is (c.take_int.ensures.yes r ns go)

pub returns-in-IntElement-clause-no : goal.returns-in-IntElement-clause-no
unfolding row
returns-in-IntElement-clause-no c r ns go = rw c.in-IntElement.is (c.take_int.ensures.no r ns go)

pub returns-in-ByteElement-clause-yes : goal.returns-in-ByteElement-clause-yes
unfolding row
returns-in-ByteElement-clause-yes c r ns go = rw c.in-ByteElement.is (c.take_int-in-ByteElement.ensures.yes r ns go)

pub returns-in-ByteElement-clause-no : goal.returns-in-ByteElement-clause-no
unfolding row
returns-in-ByteElement-clause-no c r ns go = rw c.in-ByteElement.is (c.take_int-in-ByteElement.ensures.no r ns go)

pub returns-in-CharElement-clause-yes : goal.returns-in-CharElement-clause-yes
unfolding row
returns-in-CharElement-clause-yes c r ns go = rw c.in-CharElement.is (c.take_int-in-CharElement.ensures.yes r ns go)

pub returns-in-CharElement-clause-no : goal.returns-in-CharElement-clause-no
unfolding row
returns-in-CharElement-clause-no c r ns go = rw c.in-CharElement.is (c.take_int-in-CharElement.ensures.no r ns go)

pub returns-in-ShortElement-clause-yes : goal.returns-in-ShortElement-clause-yes
unfolding row
returns-in-ShortElement-clause-yes c r ns go = rw c.in-ShortElement.is (c.take_int-in-ShortElement.ensures.yes r ns go)

pub returns-in-ShortElement-clause-no : goal.returns-in-ShortElement-clause-no
unfolding row
returns-in-ShortElement-clause-no c r ns go = rw c.in-ShortElement.is (c.take_int-in-ShortElement.ensures.no r ns go)
