use Rattle.std.proofs.Common.{arith, ℕ, zero, suc, ◌+◌, ◌≤◌, drop, ◌≡◌, List, map, length, true, false, ◌∷◌, ◌++◌, ◌&&◌, refl, ap, sym, ◌∙◌}
use Rattle.std.specs.Prelude.{if◌then◌else◌}
use Rattle.program_rules.specs.Types as rules
use Rattle.type_rules.specs.References.{classes_of}
use Rattle.type_rules.specs.Assignability.{assignable}
use Rattle.type_rules.specs.Rows.{Setting, Checked, leads_all, Falls, Stops, Fails, row, gives, takes, returns as returns_of, leads, has_kind, is_reference_kind}
use Rattle.class_table.specs.Table.{look}
use Rattle.vframes.specs.View.{type_of, types_in}
use Rattle.vframes.specs.FrameView.{types_of}
use Rattle.type_rows.specs.Sites.{leads_in, IsSettingOf, takes_types}
use Rattle.type_rules.specs.Frames.{type_of as type_of_kind}
use Rattle.type_rows.specs.Items.{is_plain}
use Rattle.type_rows.proofs.Settings.{leads_is, room_is, args_at, call_ends, ends_full, ends_plain}
use Rattle.type_rows.proofs.switch_rows.keys_lead.Goals as goal
use Rattle.std.proofs.lemmas.List.{drop_more}
use Rattle.type_rows.proofs.Settings.{all_dropped, drop_mapped}
use Rattle.program_rules.specs.Types.{VType}

pub returns-then-not-key_leads_at-clause-no : goal.returns-then-not-key_leads_at-clause-no
returns-then-not-key_leads_at-clause-no c r s x go =
    let ns = c.args.site.now.names.now in
    c.loop-at.invariant.1 s x go ∙ c.if-not-key_leads_at.ensures.no refl s x go

pub loop-at-preserved : goal.loop-at-preserved
loop-at-preserved c =
    let ns = c.args.site.now.names.now in
    (c.loop-at.invariant.0, λ s x go. c.loop-at.invariant.1 s x go ∙ c.if-not-key_leads_at.ensures.yes refl s x go)

pub returns-clause-yes : goal.returns-clause-yes
returns-clause-yes c r s x go =
    let ns = c.args.site.now.names.now in
    c.loop-at.invariant.1 s x go ∙ ap (λ l. leads_all s (types_of ns c.args.f.now) l go) (drop_mapped (λ k. k.1) c.args.keys.now c.loop-at.at ∙ ap (map (λ k. k.1)) (all_dropped c.args.keys.now c.loop-at.at (omega (arith, c.loop-at-test.false, c.loop-at.invariant.0))))
