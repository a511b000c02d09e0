use Rattle.std.proofs.Common.{arith, ℕ, zero, suc, ◌+◌, ◌≤◌, drop, ◌≡◌, List, map, length, true, false, ◌∷◌, ◌++◌, ◌&&◌, refl, ap, sym, ◌∙◌}
use Rattle.std.specs.Prelude.{if◌then◌else◌}
use Rattle.program_rules.specs.Types as rules
use Rattle.type_rules.specs.References.{classes_of}
use Rattle.type_rules.specs.Assignability.{assignable}
use Rattle.type_rules.specs.Rows.{Setting, Checked, leads_all, Falls, Stops, Fails, row, gives, takes, returns as returns_of, leads, has_kind, is_reference_kind}
use Rattle.class_table.specs.Table.{look}
use Rattle.vframes.specs.View.{type_of, types_in}
use Rattle.vframes.specs.FrameView.{types_of}
use Rattle.type_rows.specs.Sites.{leads_in, IsSettingOf, takes_types}
use Rattle.type_rules.specs.Frames.{type_of as type_of_kind}
use Rattle.type_rows.specs.Items.{is_plain}
use Rattle.type_rows.proofs.Settings.{leads_is, room_is, args_at, call_ends, ends_full, ends_plain}
use Rattle.type_rows.proofs.switch_rows.keys_lead.Given as goal
use Rattle.std.proofs.lemmas.List.{drop_more}
use Rattle.type_rows.proofs.Settings.{all_dropped, drop_mapped}
use Rattle.program_rules.specs.Types.{VType}

abbrev pub invariant-loop-at : goal.invariant-loop-at
invariant-loop-at l =
    (l.at-end ≡ length l.keys)
    × ((s : Setting) → IsSettingOf s l.site → (go : Checked)
    → leads_all s (types_of l.site.names.now l.f) (map (λ k. k.1) l.fn.keys) go
    ≡ leads_all s (types_of l.site.names.now l.f) (drop l.at (map (λ k. k.1) l.keys)) go)
