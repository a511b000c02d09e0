use Rattle.std.proofs.Common.{◌≡◌, ◌∷◌, ◌++◌, ◌&&◌, refl, ap, sym, ◌∙◌}
use Rattle.std.specs.Prelude.{if◌then◌else◌}
use Rattle.program_rules.specs.Types as rules
use Rattle.type_rules.specs.References.{classes_of}
use Rattle.type_rules.specs.Assignability.{assignable}
use Rattle.type_rules.specs.Rows.{Falls, Stops, Fails, row, gives, takes, returns as returns_of, leads, has_kind, is_reference_kind}
use Rattle.class_table.specs.Table.{look}
use Rattle.vframes.specs.View.{type_of, types_in}
use Rattle.vframes.specs.FrameView.{types_of}
use Rattle.type_rows.specs.Sites.{leads_in}
use Rattle.type_rules.specs.Frames.{type_of as type_of_kind}
use Rattle.type_rows.specs.Items.{is_plain}
use Rattle.type_rows.proofs.Settings.{leads_is, room_is, args_at, call_ends, ends_full, ends_plain}
use Rattle.type_rows.proofs.call_rows.plainly.Goals as goal

pub returns-in-Other : goal.returns-in-Other
unfolding row
returns-in-Other c r i =
    let ns = c.args.site.now.names.now in
    ap (λ b. if b then Falls (types_of ns c.args.f.now) else Fails 12) (i.plain ∙ ap is_plain c.in-Other.is)

pub returns-in-InstanceInitializer : goal.returns-in-InstanceInitializer
unfolding row
returns-in-InstanceInitializer c r i =
    let ns = c.args.site.now.names.now in
    ap (λ b. if b then Falls (types_of ns c.args.f.now) else Fails 12) (i.plain ∙ ap is_plain c.in-InstanceInitializer.is)

pub returns-in-ClassInitializer : goal.returns-in-ClassInitializer
unfolding row
returns-in-ClassInitializer c r i =
    let ns = c.args.site.now.names.now in
    ap (λ b. if b then Falls (types_of ns c.args.f.now) else Fails 12) (i.plain ∙ ap is_plain c.in-ClassInitializer.is)
