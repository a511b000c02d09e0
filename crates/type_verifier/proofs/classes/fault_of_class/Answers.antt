use Rattle.std.proofs.Common.{◌∙◌, All, sym, ap, subst}
use Rattle.std.proofs.lemmas.Option.{get_or_from_slice_get}
use Rattle.type_verifier.specs.ProgramTables.{HasShortCode}
use Rattle.type_verifier.proofs.ClassLaws.{library_accepted}
use Rattle.type_verifier.proofs.classes.fault_of_class.Goals as goal

pub returns-then-library : goal.returns-then-library
returns-then-library c =
    library_accepted c.args.program.now c.args.id.0 c.info-info.result.now c.requires.library c.info-info.ensures.class
    (sym (ap (λ l. l.library) c.linked-linked.ensures.value) ∙ c.if-library.true)

pub fault_of_file-requires : goal.fault_of_file-requires
fault_of_file-requires c =
    let p = c.args.program.now in
    let i = c.info-info.result.now in
    let at = get_or_from_slice_get p c.args.id.0 i i c.info-info.ensures.place in
    record {
      there = c.info-info.ensures.place;
      file = sym (ap (λ l. l.library) c.linked-linked.ensures.value) ∙ c.if-library.false;
      short = subst (λ x. All HasShortCode x.linked.methods) at (c.requires.numbered c.args.id.0 i c.requires.within);
    }
