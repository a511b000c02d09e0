use Rattle.std.proofs.Common.{◌≤◌, refl, sym, subst}
use Rattle.vframes.specs.View.{words_of}
use Rattle.type_verifier.specs.Heads.{FirstIs}
use Rattle.type_verifier.specs.ProgramTables.{StatedFaultIs}
use Rattle.type_verifier.proofs.CodeLaws.{is_site, stated_fault, for_ok}
use Rattle.type_verifier.proofs.codes.fault_of_stated.Goals as goal

pub first_frame-requires : goal.first_frame-requires
first_frame-requires c = subst (λ ts. words_of ts ≤ c.args.code.now.max_locals) (sym c.deref.ensures.value) c.requires.fit

pub check_code-fault-requires-clause-site : goal.check_code-fault-requires-clause-site
check_code-fault-requires-clause-site c =
    is_site c.args.own.now c.args.tables.now c.args.method.now c.args.code.now c.args.parts.now _ c.requires.tables c.requires.parts refl c.as_slice.ensures.value refl c.as_slice-2.ensures.value refl refl

pub returns : goal.returns
returns c =
    for_ok _ (StatedFaultIs c.args.own.now c.args.method.now c.args.code.now c.args.tables.now.names.list.items c.args.stated.now) c.check_code-fault.result
    (λ r. stated_fault c.args.own.now c.args.tables.now c.args.method.now c.args.code.now c.args.parts.now _ c.requires.tables c.requires.parts refl c.as_slice.ensures.value refl c.as_slice-2.ensures.value refl refl
    c.args.stated.now refl refl refl c.is_init.ensures c.deref-2.result.now c.in_ok-first.first r c.deref-2.ensures.value
    (subst (λ ts. FirstIs c.args.code.now.max_locals ts c.in_ok-first.first) c.deref.ensures.value c.in_ok-first.ensures))
    c.check_code-fault.ensures
