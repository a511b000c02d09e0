use Rattle.std.proofs.Common.{◌∙◌, ap, ◌+◌, length, subst}
use Rattle.machine_rules.specs.Effects.{allocate}
use Rattle.jvm_world.specs.View.{Allocates, object_of}
use Rattle.jvm_natives.specs.Copies.{copy_made}
use Rattle.jvm_natives.proofs.Copied.{words_are}
use Rattle.jvm_natives.proofs.cloning.give_copy.Goals as goal

pub returns-clause-row : goal.returns-clause-row
returns-clause-row c = λ r.
    let p = c.args.p.now in
    let w = c.args.world.now in
    let u = c.allocate.new.self in
    c.give_made-turn.ensures.row p r w u (copy_made p c.args.copy) c.in_ok-made.ensures.kept.limits
    (subst (λ n. Allocates p w u (λ v. allocate w.limits v (object_of p c.args.copy) n) c.in_ok-made.made)
    (ap (λ k. 1 + (1 + k)) c.len.ensures ∙ words_are (length c.args.copy.values)) c.in_ok-made.ensures.made)
