use Rattle.std.proofs.Common.{arith, ℕ, zero, suc, ◌+◌, ◌≤◌, drop, ◌≡◌, List, map, length, true, false, ◌∷◌, ◌++◌, ◌&&◌, refl, ap, sym, ◌∙◌}
use Rattle.std.specs.Prelude.{if◌then◌else◌}
use Rattle.program_rules.specs.Types as rules
use Rattle.type_rules.specs.References.{classes_of}
use Rattle.type_rules.specs.Assignability.{assignable}
use Rattle.type_rules.specs.Rows.{Setting, Checked, leads_all, Falls, Stops, Fails, row, gives, takes, returns as returns_of, leads, has_kind, is_reference_kind}
use Rattle.class_table.specs.Table.{look}
use Rattle.vframes.specs.View.{type_of, types_in}
use Rattle.vframes.specs.FrameView.{types_of}
use Rattle.type_rows.specs.Sites.{leads_in, IsSettingOf, takes_types}
use Rattle.type_rules.specs.Frames.{type_of as type_of_kind}
use Rattle.type_rows.specs.Items.{is_plain}
use Rattle.type_rows.proofs.Settings.{leads_is, room_is, args_at, call_ends, ends_full, ends_plain}
use Rattle.type_rows.proofs.call_rows.take_arg.Goals as goal
use Rattle.std.proofs.lemmas.List.{drop_more}
use Rattle.type_rows.proofs.Settings.{all_dropped}
use Rattle.program_rules.specs.Types.{VType}

pub returns-clause-yes : goal.returns-clause-yes
returns-clause-yes c r s x go =
    let ns = c.args.site.now.names.now in
    ap (λ l. takes_types s (types_in ns l) (types_in ns c.args.stack.now) go) (drop_more c.args.args.now c.args.at _ c.requires.within) ∙ c.take_assignable.ensures.yes r s x _

pub returns-clause-no : goal.returns-clause-no
returns-clause-no c r s x go =
    let ns = c.args.site.now.names.now in
    ap (λ l. takes_types s (types_in ns l) (types_in ns c.args.stack.now) go) (drop_more c.args.args.now c.args.at _ c.requires.within) ∙ c.take_assignable.ensures.no r s x _
