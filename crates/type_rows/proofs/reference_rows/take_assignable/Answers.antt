use Rattle.std.proofs.Common.{◌≡◌, ◌∷◌, ◌++◌, ◌&&◌, refl, ap, sym, ◌∙◌}
use Rattle.std.specs.Prelude.{if◌then◌else◌}
use Rattle.program_rules.specs.Types as rules
use Rattle.type_rules.specs.References.{classes_of}
use Rattle.type_rules.specs.Assignability.{assignable}
use Rattle.type_rules.specs.Rows.{Falls, Stops, Fails, row, gives, takes, returns as returns_of, leads, has_kind, is_reference_kind}
use Rattle.class_table.specs.Table.{look}
use Rattle.vframes.specs.View.{type_of, types_in}
use Rattle.vframes.specs.FrameView.{types_of}
use Rattle.type_rows.specs.Sites.{leads_in}
use Rattle.type_rules.specs.Frames.{type_of as type_of_kind}
use Rattle.type_rows.specs.Items.{is_plain}
use Rattle.type_rows.proofs.Settings.{leads_is, room_is, args_at, call_ends, ends_full, ends_plain}
use Rattle.type_rows.proofs.reference_rows.take_assignable.Goals as goal

pub returns-in_default-clause-no : goal.returns-in_default-clause-no
unfolding row
returns-in_default-clause-no c r s x go =
    let ns = c.args.site.now.names.now in
    ap (λ l. takes s (type_of ns c.args.t) (types_in ns l) go) c.in_default.ensures.none

pub returns-clause-yes : goal.returns-clause-yes
unfolding row
returns-clause-yes c r s x go =
    let ns = c.args.site.now.names.now in
    ap (λ l. takes s (type_of ns c.args.t) (types_in ns l) go) c.in-Some.ensures.some
    ∙ ap (λ b. if b then go (types_in ns c.pop.new.self) else Fails 7)
    (ap (λ p. assignable p (type_of ns c.in-Some.top) (type_of ns c.args.t)) x.program ∙ sym c.is_assignable.ensures ∙ r)

pub returns-clause-no : goal.returns-clause-no
unfolding row
returns-clause-no c r s x go =
    let ns = c.args.site.now.names.now in
    ap (λ l. takes s (type_of ns c.args.t) (types_in ns l) go) c.in-Some.ensures.some
    ∙ ap (λ b. if b then go (types_in ns c.pop.new.self) else Fails 7)
    (ap (λ p. assignable p (type_of ns c.in-Some.top) (type_of ns c.args.t)) x.program ∙ sym c.is_assignable.ensures ∙ r)
