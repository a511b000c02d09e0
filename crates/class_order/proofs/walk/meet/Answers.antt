use Rattle.std.proofs.lemmas.Result.{on_ok_weaker}
use Rattle.class_order.specs.Walks.{enters, joins}
use Rattle.class_order.proofs.walk.meet.Goals as goal

pub returns-in-New : goal.returns-in-New
returns-in-New c = on_ok_weaker c.enter.result (enters c.in-New.ensures) c.enter.ensures

pub returns-in-Open : goal.returns-in-Open
returns-in-Open c = joins c.in-Open.place c.in-Open.ensures c.join.ensures
