use Rattle.std.proofs.Common.{subst}
use Rattle.class_link.specs.declared.loaded.Loaded.{Loaded}
use Rattle.class_link.specs.Switches.{AreEntries}
use Rattle.class_link.proofs.EditLaws.{file_entries, edited_entries, library_entries}
use Rattle.class_link.proofs.info.link_body.Goals as goal

pub returns-in_ok-link-in-File-clause-entries : goal.returns-in_ok-link-in-File-clause-entries
returns-in_ok-link-in-File-clause-entries c =
    let es = c.in_ok-link-in-File.field-0.entries in
    file_entries c.args.body.now c.in-File.loaded es c.in-File.is (subst (λ (l : Loaded). AreEntries es l.class.pool) c.deref.ensures c.in_ok-link-in-File.ensures.entries)

pub returns-in_ok-link-in-Edited-clause-entries : goal.returns-in_ok-link-in-Edited-clause-entries
returns-in_ok-link-in-Edited-clause-entries c =
    edited_entries c.args.body.now c.in-Edited.file c.in_ok-edited_class-in-Edited.field-0 c.in_ok-link-in-Edited.field-0.entries c.in-Edited.is c.in_ok-edited_class-in-Edited.ensures c.in_ok-link-in-Edited.ensures.entries

pub returns-in_ok-link_library-in-Library-clause-entries : goal.returns-in_ok-link_library-in-Library-clause-entries
returns-in_ok-link_library-in-Library-clause-entries c =
    library_entries c.args.body.now c.in-Library.class c.in_ok-link_library-in-Library.field-0.entries c.in-Library.is c.in_ok-link_library-in-Library.ensures.entries
