use Rattle.std.proofs.Common.{◌≡◌, length, subst, arith}
use Rattle.type_verifier.specs.Programs.{FoundAmong}
use Rattle.type_verifier.proofs.programs.first_fault.Goals as goal

pub loop-id-init : goal.loop-id-init
loop-id-init c j l = absurd (omega (arith, l))

pub returns : goal.returns
returns c =
    let all : c.loop-id.id ≡ length c.args.program.now = omega (arith, c.loop-id-test.false, c.loop-id.auto.id-end, c.len-count.ensures.value) in
    subst (λ k. FoundAmong c.args.program.now k c.loop-id.found) all c.loop-id.invariant
