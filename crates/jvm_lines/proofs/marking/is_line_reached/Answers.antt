use Rattle.std.proofs.Common.{◌≡◌, ◌∙◌, sym, true}
use Rattle.program_rules.specs.Linked.{is_from_file}
use Rattle.class_table.specs.Table.{look, name_at}
use Rattle.jvm_lines.proofs.Marked.{listed_reached}
use Rattle.jvm_lines.proofs.marking.is_line_reached.Goals as goal

pub returns : goal.returns
returns c = λ h.
    let p = c.args.p.now in
    let at = c.args.place in
    let file : is_from_file (look p (name_at p at.class.0)) ≡ true = sym c.is_from_file.ensures ∙ c.if-not-is_from_file.false in
    listed_reached p at.class.0 at.method at.at c.line_of.result c.args.method.now c.args.world.now c.requires.code c.line_of.ensures file (sym c.has.ensures ∙ h)
