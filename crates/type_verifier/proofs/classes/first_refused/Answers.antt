use Rattle.std.proofs.Common.{◌≡◌, ◌∙◌, Some, refl, sym, ap, subst, take, length, arith}
use Rattle.std.specs.Prelude.{slice_get}
use Rattle.std.proofs.lemmas.Option.{slice_get_read, slice_get_within}
use Rattle.type_verifier.specs.ProgramHeads.{AreMet}
use Rattle.type_verifier.specs.Methods.{FaultAt}
use Rattle.type_verifier.proofs.ClassLaws.{taken_next, one_more_passed}
use Rattle.type_verifier.proofs.classes.first_refused.Goals as goal

pub returns-in-Some : goal.returns-in-Some
returns-in-Some c =
    let ms = c.args.methods.now in
    let k = c.loop-k.k in
    let there = slice_get_read ms (length ms) k c.index-methods-k.result refl c.loop-k-test.true c.index-methods-k.is in
    let own_there : slice_get c.args.own.now.linked.now.methods k ≡ Some c.index-methods-k.result = ap (λ l. slice_get l k) (sym c.requires.methods) ∙ there in
    let are = subst (λ l. AreMet c.loop-k.heads (take k l)) c.requires.methods c.loop-k.invariant.1 in (
      refl,
      record {
        method = c.index-methods-k.result;
        there = own_there;
        fault = subst (FaultAt c.args.own.now k c.index-methods-k.result) c.in-Some.is (c.in_ok-fault.ensures.fault k are own_there);
        before = c.loop-k.invariant.2;
      },
    )

pub loop-k-preserved : goal.loop-k-preserved
loop-k-preserved c =
    let ms = c.args.methods.now in
    let k = c.loop-k.k in
    let there = slice_get_read ms (length ms) k c.index-methods-k.result refl c.loop-k-test.true c.index-methods-k.is in
    let own_there : slice_get c.args.own.now.linked.now.methods k ≡ Some c.index-methods-k.result = ap (λ l. slice_get l k) (sym c.requires.methods) ∙ there in
    let are = subst (λ l. AreMet c.loop-k.heads (take k l)) c.requires.methods c.loop-k.invariant.1 in (
      c.in_ok-fault.ensures.tables,
      subst (AreMet c.method_fault.new.heads) (sym (taken_next ms k c.index-methods-k.result there)) (c.in_ok-fault.ensures.heads (take k ms) c.loop-k.invariant.1),
      one_more_passed c.args.own.now.program.now c.args.own.now.name.now c.args.own.now.linked.now k c.index-methods-k.result own_there
          (subst (FaultAt c.args.own.now k c.index-methods-k.result) c.in_default.is (c.in_ok-fault.ensures.fault k are own_there)) c.loop-k.invariant.2,
    )

pub returns : goal.returns
returns c j m at =
    let within = slice_get_within c.args.own.now.linked.now.methods j m at in
    c.loop-k.invariant.2 j m (omega (arith, within, ap length c.requires.methods, c.loop-k-test.false)) at
