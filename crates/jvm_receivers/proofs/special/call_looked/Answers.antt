use Rattle.std.proofs.Common.{◌∙◌, sym}
use Rattle.class_link.specs.View.{method_ref_of}
use Rattle.jvm_receivers.proofs.SpecialCalls.{looking_own, looking_above}
use Rattle.jvm_receivers.proofs.special.call_looked.Goals as goal

pub returns-then-own-clause-row : goal.returns-then-own-clause-row
returns-then-own-clause-row c = λ m is.
    let p = c.args.p.now in
    let r = method_ref_of c.args.reference.now in
    looking_own p r m c.args.args.count c.args.class.0 c.in_ok-done.done c.args.frames.now c.call_found.new.frames c.args.world.now c.consult.new.self c.call_found.new.world
    c.requires.runs c.in_ok-consult.ensures.moves c.in_ok-consult.ensures.kept.limits
    (sym c.in_ok-own.ensures.own ∙ c.if-own.true) (c.in_ok-done.ensures.row m r is)

pub returns-clause-row : goal.returns-clause-row
returns-clause-row c = λ m is.
    let p = c.args.p.now in
    let r = method_ref_of c.args.reference.now in
    looking_above p r m c.args.args.count c.args.class.0 c.in_ok-done-2.done c.args.frames.now c.call_above.new.frames c.args.world.now c.consult.new.self c.call_above.new.world
    c.requires.runs c.in_ok-consult.ensures.moves c.in_ok-consult.ensures.kept.limits
    (sym c.in_ok-own.ensures.own ∙ c.if-own.false) c.in_ok-done-2.ensures.row
