use Rattle.std.proofs.Common.{◌≡◌, ◌∷◌, ◌++◌, ◌&&◌, refl, ap, sym, ◌∙◌}
use Rattle.std.specs.Prelude.{if◌then◌else◌}
use Rattle.program_rules.specs.Types as rules
use Rattle.type_rules.specs.References.{classes_of}
use Rattle.type_rules.specs.Assignability.{assignable}
use Rattle.type_rules.specs.Rows.{Falls, Stops, Fails, row, gives, takes, returns as returns_of, leads, has_kind, is_reference_kind}
use Rattle.class_table.specs.Table.{look}
use Rattle.vframes.specs.View.{type_of, types_in}
use Rattle.vframes.specs.FrameView.{types_of}
use Rattle.type_rows.specs.Sites.{leads_in}
use Rattle.type_rules.specs.Frames.{type_of as type_of_kind}
use Rattle.type_rows.specs.Items.{is_plain}
use Rattle.type_rows.proofs.Settings.{leads_is, room_is, args_at, call_ends, ends_full, ends_plain}
use Rattle.type_rows.proofs.jump_rows.if_references.Goals as goal

pub returns-in_default-clause-same : goal.returns-in_default-clause-same
unfolding row
returns-in_default-clause-same c s at x =
    let ns = c.args.site.now.names.now in
    c.in_default.ensures.none ns _

pub returns-in_default-take_any_reference-clause-same : goal.returns-in_default-take_any_reference-clause-same
unfolding row
returns-in_default-take_any_reference-clause-same c s at x =
    let ns = c.args.site.now.names.now in
    c.in-Some.ensures.some ns _ ∙ c.in_default-take_any_reference.ensures.none ns _

pub returns-clause-same : goal.returns-clause-same
unfolding row
returns-clause-same c s at x =
    let ns = c.args.site.now.names.now in
    c.in-Some.ensures.some ns _ ∙ c.in-Some-take_any_reference.ensures.some ns _ ∙ c.fork.ensures s x

pub returns-in_default-clause-not_same : goal.returns-in_default-clause-not_same
unfolding row
returns-in_default-clause-not_same c s at x =
    let ns = c.args.site.now.names.now in
    c.in_default.ensures.none ns _

pub returns-in_default-take_any_reference-clause-not_same : goal.returns-in_default-take_any_reference-clause-not_same
unfolding row
returns-in_default-take_any_reference-clause-not_same c s at x =
    let ns = c.args.site.now.names.now in
    c.in-Some.ensures.some ns _ ∙ c.in_default-take_any_reference.ensures.none ns _

pub returns-clause-not_same : goal.returns-clause-not_same
unfolding row
returns-clause-not_same c s at x =
    let ns = c.args.site.now.names.now in
    c.in-Some.ensures.some ns _ ∙ c.in-Some-take_any_reference.ensures.some ns _ ∙ c.fork.ensures s x
