use Rattle.std.proofs.Common.{sym}
use Rattle.jvm_natives.proofs.Copied.{few_at, none_at}
use Rattle.jvm_natives.proofs.cloning.copy_at.Goals as goal

pub returns-in_ok-copy-in-Some-clause-few : goal.returns-in_ok-copy-in-Some-clause-few
returns-in_ok-copy-in-Some-clause-few c =
    few_at c.args.p.now c.args.world.now c.args.object c.in-Some.found.now c.in_ok-copy-in-Some.copy c.requires (sym c.in-Some.ensures) c.in_ok-copy-in-Some.ensures.slots

pub returns-in-None-clause-copy : goal.returns-in-None-clause-copy
returns-in-None-clause-copy c = none_at c.args.p.now c.args.world.now c.args.object (sym c.in-None.ensures)
