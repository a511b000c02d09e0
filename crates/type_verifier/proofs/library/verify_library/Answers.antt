use Rattle.std.proofs.Common.{◌≡◌, All, sym, subst, inl, inr, arith}
use Rattle.std.proofs.lemmas.Option.{get_or_from_slice_get}
use Rattle.type_verifier.specs.ProgramTables.{HasShortCode}
use Rattle.type_verifier.specs.Libraries.{IsAcceptedInLibrary, IsFirstInLibrary, LibraryFaultIs}
use Rattle.type_verifier.proofs.ClassLaws.{before_or_here}
use Rattle.type_verifier.proofs.LibraryLaws.{first_in_library, library_is}
use Rattle.type_verifier.proofs.library.verify_library.Goals as goal

pub library_fault-requires : goal.library_fault-requires
library_fault-requires c =
    let p = c.args.program.now in
    let i = c.info-info.result.now in
    let at = get_or_from_slice_get p c.loop-id.id i i c.info-info.ensures.place in
    record {
      there = c.info-info.ensures.place;
      short = subst (λ x. All HasShortCode x.linked.methods) at (c.requires c.loop-id.id i (omega (arith, c.loop-id-test.true, c.len-count.ensures.value)));
    }

pub loop-id-preserved : goal.loop-id-preserved
loop-id-preserved c j l =
    let here = subst (LibraryFaultIs c.args.program.now c.loop-id.id) c.in_default.is c.in_ok-fault.ensures in
    elim (before_or_here j c.loop-id.id l) [
      | inl h ↦ c.loop-id.invariant j h
      | inr h ↦ subst (IsAcceptedInLibrary c.args.program.now) (sym h) here
    ]

pub returns-in-Some-clause-no : goal.returns-in-Some-clause-no
returns-in-Some-clause-no c f e =
    let p = c.args.program.now in
    let same : c.in-Some.fault ≡ f = cc in
    subst (IsFirstInLibrary p) same
    (first_in_library p c.loop-id.id c.in-Some.fault (omega (arith, c.loop-id-test.true, c.len-count.ensures.value)) c.loop-id.invariant
    (subst (LibraryFaultIs p c.loop-id.id) c.in-Some.is c.in_ok-fault.ensures))

pub returns-clause-yes : goal.returns-clause-yes
returns-clause-yes c = library_is c.args.program.now (λ j l. c.loop-id.invariant j (omega (arith, l, c.loop-id-test.false, c.len-count.ensures.value)))
