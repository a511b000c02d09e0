use Rattle.std.proofs.Common.{◌∙◌, ◌<◌, ◌^◌, All, refl, sym, ap, subst, length}
use Rattle.std.proofs.lemmas.Option.{slice_get_within}
use Rattle.class_table.specs.Table.{number_of}
use Rattle.class_table.proofs.Places.{name_of_class, number_at}
use Rattle.type_verifier.specs.ProgramTables.{HasShortCode}
use Rattle.type_verifier.specs.Libraries.{FirstBodyIn, LibraryFaultIs}
use Rattle.type_verifier.proofs.CodeLaws.{for_ok}
use Rattle.type_verifier.proofs.ClassLaws.{own_entries}
use Rattle.type_verifier.proofs.LibraryLaws.{library_fault, file_passed}
use Rattle.type_verifier.proofs.library.library_fault.Goals as goal

pub returns-then-not-library : goal.returns-then-not-library
returns-then-not-library c =
    file_passed c.args.program.now c.args.id.0 c.args.info.now c.is_program.ensures.form c.requires (sym (ap (λ l. l.library) c.linked-linked.ensures.value) ∙ c.if-not-library.true)

pub body_fault_of_own-fault-requires-clause-own : goal.body_fault_of_own-fault-requires-clause-own
body_fault_of_own-fault-requires-clause-own c =
    let p = c.args.program.now in
    let id = c.args.id.0 in
    let i = c.args.info.now in
    record {
      closed = c.is_program.ensures.closed;
      number = ap (number_of p) (c.name.ensures.value ∙ sym (name_of_class p id i c.requires.there)) ∙ number_at p id i c.is_program.ensures.form.distinct c.requires.there;
      within = slice_get_within p id i c.requires.there;
      entries = own_entries i c.body.result.now c.linked-linked.result.now c.body.ensures c.linked-linked.ensures.value c.linked-linked.ensures.entries;
    }

pub body_fault_of_own-fault-requires-clause-few : goal.body_fault_of_own-fault-requires-clause-few
body_fault_of_own-fault-requires-clause-few c = subst (λ l. length l.methods < 2 ^ 32) (sym c.linked-linked.ensures.value) c.linked-linked.ensures.few

pub body_fault_of_own-fault-requires-clause-short : goal.body_fault_of_own-fault-requires-clause-short
body_fault_of_own-fault-requires-clause-short c = subst (λ l. All HasShortCode l.methods) (sym c.linked-linked.ensures.value) c.requires.short

pub returns : goal.returns
returns c =
    let p = c.args.program.now in
    let id = c.args.id.0 in
    let i = c.args.info.now in
    for_ok (FirstBodyIn p c.name.result.now c.linked-linked.result.now c.args.id) (LibraryFaultIs p id) c.body_fault_of_own-fault.result
    (library_fault p id i c.is_program.ensures.form c.requires c.name.result.now c.linked-linked.result.now c.args.id
    (c.name.ensures.value ∙ sym (name_of_class p id i c.requires.there)) c.linked-linked.ensures.value c.if-not-library.false refl)
    c.body_fault_of_own-fault.ensures
