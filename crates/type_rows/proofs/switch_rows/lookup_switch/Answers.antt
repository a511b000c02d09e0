use Rattle.std.proofs.Common.{◌≡◌, List, map, length, true, false, ◌∷◌, ◌++◌, ◌&&◌, refl, ap, sym, ◌∙◌}
use Rattle.std.specs.Prelude.{if◌then◌else◌}
use Rattle.program_rules.specs.Types as rules
use Rattle.type_rules.specs.References.{classes_of}
use Rattle.type_rules.specs.Assignability.{assignable}
use Rattle.type_rules.specs.Rows.{Setting, Checked, leads_all, Falls, Stops, Fails, row, gives, takes, returns as returns_of, leads, has_kind, is_reference_kind}
use Rattle.class_table.specs.Table.{look}
use Rattle.vframes.specs.View.{type_of, types_in}
use Rattle.vframes.specs.FrameView.{types_of}
use Rattle.type_rows.specs.Sites.{leads_in, IsSettingOf}
use Rattle.type_rules.specs.Frames.{type_of as type_of_kind}
use Rattle.type_rows.specs.Items.{is_plain}
use Rattle.type_rows.proofs.Settings.{leads_is, room_is, args_at, call_ends, ends_full, ends_plain}
use Rattle.type_rows.proofs.switch_rows.lookup_switch.Goals as goal

pub returns-then-not-take_int : goal.returns-then-not-take_int
unfolding row
returns-then-not-take_int c s at x =
    let ns = c.args.site.now.names.now in
    c.if-not-take_int.ensures.no refl ns _

pub returns-then-not-leads : goal.returns-then-not-leads
unfolding row
returns-then-not-leads c s at x =
    let ns = c.args.site.now.names.now in
    c.if-not-take_int.ensures.yes refl ns _ ∙ leads_is s c.args.site.now (record c.args.f.now { stack = c.take_int.new.self }) c.args.default _ x ∙ ap (λ b. if b then leads_all s (record (types_of ns c.args.f.now) { stack = types_in ns c.take_int.new.self }) (map (λ k. k.1) c.args.keys.now) Stops else Fails 9) (sym c.if-not-leads.ensures)

pub returns-then-not-keys_lead : goal.returns-then-not-keys_lead
unfolding row
returns-then-not-keys_lead c s at x =
    let ns = c.args.site.now.names.now in
    c.if-not-take_int.ensures.yes refl ns _ ∙ leads_is s c.args.site.now (record c.args.f.now { stack = c.take_int.new.self }) c.args.default _ x ∙ ap (λ b. if b then leads_all s (record (types_of ns c.args.f.now) { stack = types_in ns c.take_int.new.self }) (map (λ k. k.1) c.args.keys.now) Stops else Fails 9) (sym c.if-not-leads.ensures) ∙ c.if-not-keys_lead.ensures.no refl s x _

pub returns : goal.returns
unfolding row
returns c s at x =
    let ns = c.args.site.now.names.now in
    c.if-not-take_int.ensures.yes refl ns _ ∙ leads_is s c.args.site.now (record c.args.f.now { stack = c.take_int.new.self }) c.args.default _ x ∙ ap (λ b. if b then leads_all s (record (types_of ns c.args.f.now) { stack = types_in ns c.take_int.new.self }) (map (λ k. k.1) c.args.keys.now) Stops else Fails 9) (sym c.if-not-leads.ensures) ∙ c.if-not-keys_lead.ensures.yes refl s x _
