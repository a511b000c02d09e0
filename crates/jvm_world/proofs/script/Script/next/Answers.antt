use Rattle.std.proofs.Common.{ap}
use Rattle.jvm_world.proofs.Rests.{none_left}
use Rattle.jvm_world.proofs.script.Script.next.Goals as goal

pub returns-clause-none : goal.returns-clause-none
returns-clause-none c =
    none_left c.get.result c.self.inside.calls c.args.self.now.rest c.self.inside.taken c.get.ensures
    (ap (λ s. s.rest) c.self.view_is)
