use Rattle.std.proofs.Common.{◌≡◌, ◌∷◌, ◌++◌, ◌&&◌, refl, ap, sym, ◌∙◌}
use Rattle.std.specs.Prelude.{if◌then◌else◌}
use Rattle.program_rules.specs.Types as rules
use Rattle.type_rules.specs.References.{classes_of}
use Rattle.type_rules.specs.Assignability.{assignable}
use Rattle.type_rules.specs.Rows.{Falls, Stops, Fails, row, gives, takes, returns as returns_of, leads, has_kind, is_reference_kind}
use Rattle.class_table.specs.Table.{look}
use Rattle.vframes.specs.View.{type_of, types_in}
use Rattle.vframes.specs.FrameView.{types_of}
use Rattle.type_rows.specs.Sites.{leads_in}
use Rattle.type_rules.specs.Frames.{type_of as type_of_kind}
use Rattle.type_rows.specs.Items.{is_plain}
use Rattle.type_rows.proofs.Settings.{leads_is, room_is, args_at, call_ends, ends_full, ends_plain}
use Rattle.type_rows.proofs.jump_rows.fork.Goals as goal

pub returns-then-leads : goal.returns-then-leads
unfolding row
returns-then-leads c s x =
    let ns = c.args.site.now.names.now in
    leads_is s c.args.site.now c.args.f.now c.args.to (Falls (types_of ns c.args.f.now)) x ∙ ap (λ b. if b then Falls (types_of ns c.args.f.now) else Fails 9) (sym c.if-leads.ensures)

pub returns-else-leads : goal.returns-else-leads
unfolding row
returns-else-leads c s x =
    let ns = c.args.site.now.names.now in
    leads_is s c.args.site.now c.args.f.now c.args.to (Falls (types_of ns c.args.f.now)) x ∙ ap (λ b. if b then Falls (types_of ns c.args.f.now) else Fails 9) (sym c.if-leads.ensures)
