use Rattle.std.proofs.Common.{ap, refl, Some, None}
use Rattle.class_link.specs.View.{lookup_of}
use Rattle.jvm_act.proofs.Rows.{no_keys}
use Rattle.jvm_act.proofs.switches.take_keys.Goals as goal

pub returns-in-Some-Table : goal.returns-in-Some-Table
returns-in-Some-Table c = λ p w.
    no_keys p c.args.switches.now c.args.number (Some c.in-Some-Table.field-0.now) c.args.frames.now w c.in-Some-Table.ensures
    (ap (λ s. lookup_of (Some s)) c.in-Some-Table.field-0-is)

pub returns-in-None : goal.returns-in-None
returns-in-None c = λ p w. no_keys p c.args.switches.now c.args.number None c.args.frames.now w c.in-None.ensures refl
