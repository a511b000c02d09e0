use Rattle.std.proofs.Common.{sym}
use Rattle.jvm_type_rows.proofs.Numbers.{nowhere_below}
use Rattle.jvm_type_rows.proofs.within.is_below.Goals as goal

pub returns-in-None : goal.returns-in-None
returns-in-None c =
    sym (nowhere_below c.args.p.now c.args.class.0 c.args.name.now c.len-count.ensures.form c.requires c.in-None.ensures.absent)
