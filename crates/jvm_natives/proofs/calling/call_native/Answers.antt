use Rattle.std.proofs.Common.{subst}
use Rattle.library_rules.specs.Numbered.{meaning_of}
use Rattle.lib_core.specs.View.{deed_of}
use Rattle.jvm_natives.specs.Ends.{PerformsTo}
use Rattle.jvm_natives.proofs.Called.{ended_call, full_call}
use Rattle.jvm_natives.proofs.calling.call_native.Goals as goal

pub returns-in_ok-ended-in-Some-clause-row : goal.returns-in_ok-ended-in-Some-clause-row
returns-in_ok-ended-in-Some-clause-row c = λ r.
    let p = c.args.p.now in
    let w = c.args.world.now in
    let u = c.perform_in.new.world in
    let d = c.in_ok-deed.deed in
    ended_call p r (meaning_of c.args.native) c.args.args.count d c.in-Some.end c.in_ok-ended-in-Some.ended
    c.args.frames.now c.end_native.new.frames w u c.end_native.new.world
    c.in_ok-deed.ensures (subst (λ o. PerformsTo p w u (deed_of d) o) c.in-Some.is c.in_ok-end.ensures.performs)
    c.in_ok-end.ensures.kept.limits (c.in_ok-ended-in-Some.ensures.row r)

pub returns-in-None-clause-row : goal.returns-in-None-clause-row
returns-in-None-clause-row c = λ r.
    let p = c.args.p.now in
    let w = c.args.world.now in
    let u = c.perform_in.new.world in
    let d = c.in_ok-deed.deed in
    full_call p r (meaning_of c.args.native) c.args.args.count d c.fill-filled.result
    c.args.frames.now c.fill-filled.new.frames w u c.fill-filled.new.world
    c.in_ok-deed.ensures (subst (λ o. PerformsTo p w u (deed_of d) o) c.in-None.is c.in_ok-end.ensures.performs)
    c.in_ok-end.ensures.kept.limits (c.fill-filled.ensures.row r)
