use Rattle.std.proofs.Common.{◌≡◌, ◌∙◌, sym, ap, Some, None}
use Rattle.std.specs.Option.{option_copied}
use Rattle.type_rules.specs.References.{classes_of}
use Rattle.class_table.specs.Table.{look}
use Rattle.vframes.specs.FrameView.{types_of}
use Rattle.vframes.proofs.StatedTables.{leads_some, leads_none}
use Rattle.vframes.proofs.stated_frames.leads_in.Goals as goal

pub returns-in-Some : goal.returns-in-Some
returns-in-Some c =
    leads_some c.args.names.now c.args.store.now c.args.max_locals c.args.frames.now c.args.to (classes_of (look c.args.program.now)) (types_of c.args.names.now c.args.from.now) c.in-Some.stated.now c.is_assignable_to_stated.result
    c.requires.kept (ap option_copied (sym c.in-Some.is) ∙ c.stated_at.ensures) c.is_assignable_to_stated.ensures

pub returns-in-None : goal.returns-in-None
returns-in-None c =
    leads_none c.args.names.now c.args.store.now c.args.max_locals c.args.frames.now c.args.to (classes_of (look c.args.program.now)) (types_of c.args.names.now c.args.from.now)
    (ap option_copied (sym c.in-None.is) ∙ c.stated_at.ensures)
