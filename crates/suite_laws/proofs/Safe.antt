-- The program of a suite is as the laws of accepted programs ask.
use Rattle.std.proofs.Common.{◌≡◌, sym, subst, List, map, All}
use Rattle.class_model.specs.declared.class.Class.{Class}
use Rattle.class_reader.specs.Spells.{IsClass}
use Rattle.class_order.specs.Ranks.{IsOrdered}
use Rattle.program_rules.specs.Library.{class_among}
use Rattle.program_rules.specs.Programs.{Look}
use Rattle.machine_laws.specs.Consulted.{IsLibraryWhole}
use Rattle.type_rules.specs.Rules.{Accepted}
use Rattle.type_rules.specs.References.{classes_of}
use Rattle.type_laws.specs.Soundness.{IsBuilt, HasFaults, HasLibrary, HasLayout, IsLinkedBy}
use Rattle.program_laws.specs.Ordered.{HasArrays, OrderedIsBuilt}
use Rattle.program_laws.specs.Walks.{TopsAreObject, OrderedHasLayout}
use Rattle.class_table.specs.Table.{AreDistinct, look}
use Rattle.lib_table.specs.Collected.{collections}
use Rattle.library_laws.specs.Beside.{AreOfFiles, AreApart, behind_others, named, program_of}
use Rattle.library_laws.specs.NativeFacts.{HostsNatives, HostsKeepers}
use Rattle.library_laws.specs.Facts.{InEachProgram, HasBareObject, HasLibraryIfTops, HasArraysOfFiles, FilesAreNoArrays}
use Rattle.library_laws.specs.Linked.{descriptors, AcceptedAreLinked}
use Rattle.library_laws.specs.Fitting.{keeping_objects}
use Rattle.library_laws.specs.KeepingHosts.{IsKeepingHost}
use Rattle.library_laws.specs.Fits.{AllFit}
use Rattle.library_laws.specs.Natives.{OthersFit}
use Rattle.suite_program.specs.Programs.{names_in}
use Rattle.suite_program.proofs.ReadyLaws.{of_files, are_apart}
use Rattle.suite_laws.specs.Suites.{SuitesAreSafe}
use Rattle.suite_laws.proofs.Natives.{natives_fit}

-- What is given of each program of class files and of the library, beside its order.
record Given : Type 0 where
  pub built : OrderedIsBuilt
  pub tops : TopsAreObject
  pub layout : OrderedHasLayout
  pub faults : InEachProgram HasFaults
  pub library : InEachProgram HasLibraryIfTops
  pub bare : InEachProgram HasBareObject
  pub arrays : HasArraysOfFiles
  pub plain : FilesAreNoArrays
  pub whole : InEachProgram IsLibraryWhole
  pub native_hosts : InEachProgram HostsNatives
  pub keeping_hosts : InEachProgram HostsKeepers
  pub linked : AcceptedAreLinked
  pub others : OthersFit
  pub kept : (p : Look) → IsKeepingHost p → AllFit p collections
  pub objects : (p : Look) → IsKeepingHost p → AllFit p keeping_objects

module _ (g : Given) (classes : List Class) (spelled : All IsClass classes) (apart : AreDistinct (names_in classes)) where
  abbrev other : Look
  other = class_among (map named classes)

  abbrev whole_program : Look
  whole_program = behind_others other

  files : AreOfFiles other
  files = of_files classes

  away : AreApart other
  away = are_apart classes apart

  module _ (order : IsOrdered whole_program) (accepted : Accepted whole_program) where
    arrays : HasArrays whole_program
    arrays = g.arrays other files away (g.plain classes spelled)

    built : IsBuilt (classes_of whole_program)
    built = g.built whole_program order arrays

    library : HasLibrary whole_program
    library = g.library other files away (g.tops whole_program order)

    layout : HasLayout whole_program
    layout = g.layout whole_program order (g.bare other files away)

    linked : IsLinkedBy whole_program descriptors
    unfolding program_of
    linked =
        let keeping = g.keeping_hosts other files away built order in
        g.linked classes spelled
        (natives_fit other files g.others (g.native_hosts other files away built order) (g.kept whole_program keeping) (g.objects whole_program keeping)) accepted

pub suites_are_safe :
    OrderedIsBuilt → TopsAreObject → OrderedHasLayout → InEachProgram HasFaults → InEachProgram HasLibraryIfTops → InEachProgram HasBareObject → HasArraysOfFiles → FilesAreNoArrays → InEachProgram IsLibraryWhole
    → InEachProgram HostsNatives → InEachProgram HostsKeepers → AcceptedAreLinked → OthersFit → ((p : Look) → IsKeepingHost p → AllFit p collections) → ((p : Look) → IsKeepingHost p → AllFit p keeping_objects) → SuitesAreSafe
unfolding program_of
suites_are_safe built_law tops_law layout_law faults_law library_law bare_law arrays_law plain_law whole_law native_law keeping_law linked_law others_law kept_law objects_law classes p h =
    let g : Given = record { built = built_law; tops = tops_law; layout = layout_law; faults = faults_law; library = library_law; bare = bare_law; arrays = arrays_law; plain = plain_law; whole = whole_law; native_hosts = native_law; keeping_hosts = keeping_law; linked = linked_law; others = others_law; kept = kept_law; objects = objects_law } in
    let apart : AreDistinct (names_in classes) = subst AreDistinct h.names h.program.distinct in
    let q = whole_program g classes h.spelled apart in
    let same : look p ≡ q = h.look in
    let order : IsOrdered q = subst IsOrdered same (record { present = h.program.present; kinds = h.ready.kinds; ranks = h.program.ranks }) in
    let accepted : Accepted q = subst Accepted same h.ready.accepted in
    let back = sym same in
    let of = files g classes h.spelled apart in
    let off = away g classes h.spelled apart in (
      record {
        program = h.program;
        kinds = h.ready.kinds;
        accepted = h.ready.accepted;
        arrays = subst HasArrays back (arrays g classes h.spelled apart order accepted);
        faults = subst HasFaults back (faults_law (class_among (map named classes)) of off);
        library = subst HasLibrary back (library g classes h.spelled apart order accepted);
        layout = subst HasLayout back (layout g classes h.spelled apart order accepted);
        linked = subst (λ l. IsLinkedBy l descriptors) back (linked g classes h.spelled apart order accepted);
      },
      subst IsLibraryWhole back (whole_law (class_among (map named classes)) of off),
    )
