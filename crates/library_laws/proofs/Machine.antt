-- The classes that the machine names, by computing over the table.
use Rattle.std.proofs.Common.{◌≡◌, refl, [], ◌∷◌}
use Rattle.std.specs.Prelude.{true, false, is_none}
use Rattle.std.specs.Char.Utf16.{utf16_chars}
use Rattle.class_model.specs.DescriptorReading.{parameters_at}
use Rattle.class_link.specs.Linking.{link_library}
use Rattle.program_rules.specs.Names.{string_name}
use Rattle.program_rules.specs.Kinds.{OfReference}
use Rattle.program_rules.specs.Programs.{Look, supers, nodes}
use Rattle.program_rules.specs.declared.fault.Fault.{Fault}
use Rattle.program_rules.specs.declared.fault.Fault.TheVariants as fault
use Rattle.program_rules.specs.Faults.{fault_name}
use Rattle.type_rules.specs.References.{is_subtype, throwable_name}
use Rattle.type_laws.specs.Values.{field_kinds}
use Rattle.type_laws.specs.Soundness.{HasFaults, HasLibrary}
use Rattle.lib_table.specs.Interfaces.{basic_interfaces, collection_interfaces}
use Rattle.lib_table.specs.LangClasses.{objects, texts, numbers}
use Rattle.lib_table.specs.Exceptions.{throwables, errors, machine_exceptions, library_exceptions}
use Rattle.lib_table.specs.Collected.{collections, list_classes, hash_classes, utility_classes, assertions}
use Rattle.library_laws.specs.Facts.{InEachProgram, HasBareObject, HasTops, HasLibraryIfTops}
use Rattle.library_laws.proofs.Over.{beside, over}

-- ---- exceptions

abbrev IsFaultClass : Look → Fault → Type 0
IsFaultClass p x =
    (is_subtype p (fault_name x) throwable_name ≡ true) × (is_none (p (fault_name x)) ≡ false)
    × (field_kinds p (fault_name x) ≡ OfReference string_name ∷ OfReference throwable_name ∷ [])

fault_classes : (other : Look) (x : Fault) → IsFaultClass (beside other) x
unfolding link_library supers nodes utf16_chars parameters_at basic_interfaces collection_interfaces objects texts numbers throwables errors machine_exceptions library_exceptions collections list_classes hash_classes utility_classes assertions
fault_classes other fault.StackOverflowError = (refl, refl, refl)
fault_classes other fault.AssertionError = (refl, refl, refl)
fault_classes other fault.NullPointerException = (refl, refl, refl)
fault_classes other fault.NoClassDefFoundError = (refl, refl, refl)
fault_classes other fault.NoSuchFieldError = (refl, refl, refl)
fault_classes other fault.NoSuchMethodError = (refl, refl, refl)
fault_classes other fault.IncompatibleClassChangeError = (refl, refl, refl)
fault_classes other fault.AbstractMethodError = (refl, refl, refl)
fault_classes other fault.InstantiationError = (refl, refl, refl)
fault_classes other fault.ExceptionInInitializerError = (refl, refl, refl)
fault_classes other fault.ArithmeticException = (refl, refl, refl)
fault_classes other fault.ArrayIndexOutOfBoundsException = (refl, refl, refl)
fault_classes other fault.NegativeArraySizeException = (refl, refl, refl)
fault_classes other fault.ArrayStoreException = (refl, refl, refl)
fault_classes other fault.ClassCastException = (refl, refl, refl)
fault_classes other fault.IllegalMonitorStateException = (refl, refl, refl)
fault_classes other fault.IndexOutOfBoundsException = (refl, refl, refl)
fault_classes other fault.StringIndexOutOfBoundsException = (refl, refl, refl)
fault_classes other fault.IllegalArgumentException = (refl, refl, refl)
fault_classes other fault.NumberFormatException = (refl, refl, refl)
fault_classes other fault.UnsupportedOperationException = (refl, refl, refl)
fault_classes other fault.NoSuchElementException = (refl, refl, refl)

faults_beside : (other : Look) → HasFaults (beside other)
faults_beside other = record { below = λ x. (fault_classes other x).0; there = λ x. (fault_classes other x).1; fields = λ x. (fault_classes other x).2 }

pub faults : InEachProgram HasFaults
faults other files apart = over HasFaults other apart (faults_beside other)

-- ---- String, Class, Throwable, Object

library_beside : (other : Look) → HasTops (beside other) → HasLibrary (beside other)
unfolding link_library supers nodes utf16_chars parameters_at basic_interfaces collection_interfaces objects texts numbers throwables errors machine_exceptions library_exceptions collections list_classes hash_classes utility_classes assertions
library_beside other tops = record { text = refl; text_fields = refl; class = refl; class_fields = refl; tops = tops; throwable = refl }

pub library : InEachProgram HasLibraryIfTops
library other files apart = over HasLibraryIfTops other apart (library_beside other)

pub bare_beside : (other : Look) → HasBareObject (beside other)
unfolding link_library basic_interfaces collection_interfaces objects texts numbers throwables errors machine_exceptions library_exceptions collections list_classes hash_classes utility_classes assertions
bare_beside other = refl

pub bare_object : InEachProgram HasBareObject
bare_object other files apart = over HasBareObject other apart (bare_beside other)
