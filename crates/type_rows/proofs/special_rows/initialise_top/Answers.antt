use Rattle.std.proofs.lemmas.Result.{IfOk-weaker}
use Rattle.type_rows.proofs.special_rows.initialise_top.Goals as goal

pub returns-in-UninitThis : goal.returns-in-UninitThis
returns-in-UninitThis c = rw c.in-UninitThis.is c.initialise_this.ensures

pub returns-in-Uninit : goal.returns-in-Uninit
returns-in-Uninit c = rw c.in-Uninit.is c.initialise_new.ensures
