use Rattle.std.proofs.Common.{subst, sym}
use Rattle.jvm_step.specs.Below.{lines_of}
use Rattle.jvm_step.specs.Below.{AreMarkedRight}
use Rattle.jvm_run.proofs.passing.pass.Goals as goal

pub stay_in_method-requires-clause-reached : goal.stay_in_method-requires-clause-reached
stay_in_method-requires-clause-reached c =
    let p = c.args.p.now in
    let m = c.args.m.now in
    let marked = subst (λ ms. AreMarkedRight p ms (lines_of p m.world)) (sym c.deref.ensures.value) c.in_ok-note_line.ensures in
    c.in-Some-marks_of.ensures p (lines_of p m.world) marked
