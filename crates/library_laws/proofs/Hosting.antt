-- What native methods need, by computing over the table and by the order of classes.
use Rattle.std.proofs.Common.{refl, codes}
use Rattle.std.specs.Char.Utf16.{utf16_chars}
use Rattle.class_model.specs.DescriptorReading.{parameters_at}
use Rattle.class_link.specs.Linking.{link_library}
use Rattle.program_rules.specs.Programs.{Look, supers, nodes}
use Rattle.type_laws.specs.Values.{Elements, Entries, Cursor, Constant}
use Rattle.program_laws.proofs.Walks.{laid_out}
use Rattle.lib_table.specs.Interfaces.{basic_interfaces, collection_interfaces}
use Rattle.lib_table.specs.LangClasses.{objects, texts, numbers}
use Rattle.lib_table.specs.Exceptions.{throwables, errors, machine_exceptions, library_exceptions}
use Rattle.lib_table.specs.Collected.{collections, list_classes, hash_classes, utility_classes, assertions}
use Rattle.library_laws.specs.Facts.{InEachProgram}
use Rattle.library_laws.specs.NativeFacts.{HostsNatives, HostsKeepers}
use Rattle.library_laws.proofs.Over.{beside, over}
use Rattle.library_laws.proofs.Machine.{bare_beside}
use Rattle.library_laws.proofs.Keeping.{keeps}

-- ---- natives of classes that keep no items

natives_beside : (other : Look) → HostsNatives (beside other)
unfolding link_library supers nodes utf16_chars parameters_at basic_interfaces collection_interfaces objects texts numbers throwables errors machine_exceptions library_exceptions collections list_classes hash_classes utility_classes assertions
natives_beside other built ordered = record {
  built = built;
  layout = laid_out (beside other) ordered (bare_beside other);
  throwable_fields = refl;
  throwable = refl;
  thrown = refl;
  text = record { there = refl; fields = refl; keeps = λ h items. tt };
  integer = record { there = refl; fields = refl; keeps = λ h items. tt };
  long = record { there = refl; fields = refl; keeps = λ h items. tt };
  short = record { there = refl; fields = refl; keeps = λ h items. tt };
  byte = record { there = refl; fields = refl; keeps = λ h items. tt };
  character = record { there = refl; fields = refl; keeps = λ h items. tt };
  boolean = record { there = refl; fields = refl; keeps = λ h items. tt };
}

pub natives : InEachProgram HostsNatives
natives other files distinct = over HostsNatives other distinct (natives_beside other)

-- ---- natives of classes that keep items

keepers_beside : (other : Look) → HostsKeepers (beside other)
unfolding link_library supers nodes basic_interfaces collection_interfaces objects texts numbers throwables errors machine_exceptions library_exceptions collections list_classes hash_classes utility_classes assertions
keepers_beside other built ordered = record {
  built = built;
  list = keeps other ordered (codes "java/util/ArrayList") Elements refl refl;
  optional = keeps other ordered (codes "java/util/Optional") Elements refl refl;
  hashed = keeps other ordered (codes "mt/Hashed") Entries refl refl;
  iterator = keeps other ordered (codes "mt/Iter") Cursor refl refl;
  enum = keeps other ordered (codes "java/lang/Enum") Constant refl refl;
  map = refl;
  set = refl;
  makes_list = record { class = codes "java/util/List"; there = refl; fields = refl; gives = refl; below = refl };
  makes_values = record { class = codes "java/util/Collection"; there = refl; fields = refl; gives = refl; below = refl };
  makes_set = record { class = codes "java/util/Set"; there = refl; fields = refl; gives = refl; below = refl };
  makes_iterator = record { class = codes "java/util/Iterator"; there = refl; fields = refl; gives = refl; below = refl };
  makes_optional = record { class = codes "java/util/Optional"; there = refl; fields = refl; gives = refl; below = refl };
}

pub keepers : InEachProgram HostsKeepers
keepers other files distinct = over HostsKeepers other distinct (keepers_beside other)
