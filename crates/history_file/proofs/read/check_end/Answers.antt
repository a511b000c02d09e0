use Rattle.std.proofs.Common.{◌∙◌, sym, arith}
use Rattle.history_file.specs.Files.{contents_in}
use Rattle.history_file.proofs.Readings.{more_behind, class_unused, unused_at, end_is_right}
use Rattle.history_file.proofs.read.check_end.Goals as goal

pub returns-then-not-is_over : goal.returns-then-not-is_over
returns-then-not-is_over c = more_behind (contents_in c.args.parts.now) c.args.cur.now c.at.result (sym c.is_over.ensures ∙ c.if-not-is_over.true) c.at.ensures.place

pub used_classes-requires : goal.used_classes-requires
used_classes-requires c = c.requires.found.within

pub returns-then-not-is_used_up : goal.returns-then-not-is_used_up
returns-then-not-is_used_up c =
    class_unused c.args.parts.now c.args.cur.now c.saturating_add-at.result c.requires (sym c.is_over.ensures ∙ c.if-not-is_over.false) (sym c.is_used_up.ensures ∙ c.if-not-is_used_up.true)
    (unused_at c.args.parts.now c.classes_len.result c.saturating_add-at.result _ c.requires c.used_classes.ensures c.classes_len.ensures (omega arith))

pub returns : goal.returns
returns c = end_is_right c.args.parts.now c.args.cur.now c.requires (sym c.is_over.ensures ∙ c.if-not-is_over.false) (sym c.is_used_up.ensures ∙ c.if-not-is_used_up.false)
