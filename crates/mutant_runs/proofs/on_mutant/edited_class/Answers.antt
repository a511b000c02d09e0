use Rattle.std.proofs.Common.{◌∙◌, sym, ap, subst, None}
use Rattle.class_reader.specs.Spells.{IsClass}
use Rattle.class_writer.specs.Writing.{HasClassForm}
use Rattle.class_link.specs.declared.loaded.ClassBody.TheVariants as body
use Rattle.class_link.specs.declared.loaded.Loaded.{Loaded}
use Rattle.class_link.specs.Info.{Info}
use Rattle.mutant_runs.specs.Edited.{IsEditBy}
use Rattle.mutant_runs.specs.Programs.{Makes}
use Rattle.mutant_runs.proofs.ProgramLaws.{file_found, edited_by, of_file}
use Rattle.mutant_runs.proofs.EditLaws.{is_edit, none_made}
use Rattle.mutant_runs.proofs.on_mutant.edited_class.Goals as goal

pub returns-in_default-2-clause-made : goal.returns-in_default-2-clause-made
returns-in_default-2-clause-made c =
    let p = c.args.program.now in
    let m = c.args.mutant.now in
    let loaded = c.in-File.loaded in
    let found = file_found p m.class c.in-Some.id.0 c.info-original.result.now loaded c.in-Some.ensures.found c.info-original.ensures.place (sym c.body.ensures ∙ c.in-File.is) in
    edited_by p m loaded.class None found (none_made c.parts_are_of_applied.ensures loaded m.edit (sym c.in_ok-file.ensures.made ∙ c.in_default-2.is))

pub edited-requires-clause-of : goal.edited-requires-clause-of
edited-requires-clause-of c =
    let edit = is_edit c.parts_are_of_applied.ensures c.in-File.loaded c.args.mutant.now.edit c.in-Some-2.file (sym c.in_ok-file.ensures.made ∙ c.in-Some-2.is) in
    sym c.body.ensures ∙ c.in-File.is ∙ ap body.File (sym edit.original)

pub edited-requires-clause-alone : goal.edited-requires-clause-alone
edited-requires-clause-alone c =
    let p = c.args.program.now in
    let m = c.args.mutant.now in
    let loaded = c.in-File.loaded in
    let found = file_found p m.class c.in-Some.id.0 c.info-original.result.now loaded c.in-Some.ensures.found c.info-original.ensures.place (sym c.body.ensures ∙ c.in-File.is) in
    let known = of_file p m loaded.class found c.requires.fit in
    let edit = is_edit c.parts_are_of_applied.ensures loaded m.edit c.in-Some-2.file (sym c.in_ok-file.ensures.made ∙ c.in-Some-2.is) in
    c.entries_add_alone.ensures c.in-Some-2.file (subst (λ (l : Loaded). HasClassForm l.class) (sym edit.original) known.0) (subst (λ (l : Loaded). IsClass l.class) (sym edit.original) known.2)

pub returns-clause-edit : goal.returns-clause-edit
returns-clause-edit c =
    let p = c.args.program.now in
    let m = c.args.mutant.now in
    let id = c.in-Some.id.0 in
    let P : Info → Type 0 = λ i. IsEditBy p m id i in
    subst P (sym c.in_ok-new.ensures.ok) (record {
      old = c.info-original.result.now;
      loaded = c.in-File.loaded;
      file = c.in-Some-2.file;
      number = c.in-Some.ensures.found;
      there = c.info-original.ensures.place;
      original = sym c.body.ensures ∙ c.in-File.is;
      made = sym c.in_ok-file.ensures.made ∙ c.in-Some-2.is;
      edited = c.in_ok-edited.ensures.body;
      meant = c.is_info.ensures;
    })

pub returns-clause-made : goal.returns-clause-made
returns-clause-made c =
    let p = c.args.program.now in
    let m = c.args.mutant.now in
    let id = c.in-Some.id.0 in
    let P : Info → Type 0 = λ i. Makes p m id i in
    subst P (sym c.in_ok-new.ensures.ok) (c.edits_make.ensures p m id c.in_ok-edited.edited c.is_program.ensures c.requires.fit (record {
      old = c.info-original.result.now;
      loaded = c.in-File.loaded;
      file = c.in-Some-2.file;
      number = c.in-Some.ensures.found;
      there = c.info-original.ensures.place;
      original = sym c.body.ensures ∙ c.in-File.is;
      made = sym c.in_ok-file.ensures.made ∙ c.in-Some-2.is;
      edited = c.in_ok-edited.ensures.body;
      meant = c.is_info.ensures;
    }))
