use Rattle.std.proofs.Common.{◌∙◌, sym}
use Rattle.class_table.specs.Table.{look}
use Rattle.jvm_type_rows.proofs.Described.{absent_listed}
use Rattle.jvm_type_rows.proofs.within.is_named_below.Goals as goal

pub returns-in-None : goal.returns-in-None
returns-in-None c =
    c.is_same_name.ensures ∙ sym (absent_listed (look c.args.p.now) c.args.class.now c.args.name.now c.in-None.ensures.nothing)
