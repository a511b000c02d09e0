use Rattle.std.proofs.Common.{refl}
use Rattle.std.specs.Int.{int_wrap}
use Rattle.std.specs.Char.Utf16.{utf16_chars}
use Rattle.class_model.specs.DescriptorReading.{parameters_at}
use Rattle.class_link.specs.Linking.{link_library}
use Rattle.class_link.specs.Opcodes.{instruction_by}
use Rattle.program_rules.specs.Programs.{supers, nodes, family}
use Rattle.program_rules.specs.Resolution.{resolve_field, resolve_method}
use Rattle.program_rules.specs.Selection.{select_virtual, select_named}
use Rattle.machine_rules.specs.Initialisation.{need_of}
use Rattle.machine_rules.specs.Lookups.{is_instance}
use Rattle.machine_rules.specs.Steps.{act, step_of}
use Rattle.library_rules.specs.Arguments.{on_receiver, on_receiver_int, on_receiver_value}
use Rattle.lib_table.specs.Interfaces.{basic_interfaces, collection_interfaces}
use Rattle.lib_table.specs.LangClasses.{objects, texts, numbers}
use Rattle.lib_table.specs.Exceptions.{throwables, errors, machine_exceptions, library_exceptions}
use Rattle.lib_table.specs.Collected.{collections, list_classes, hash_classes, utility_classes, assertions}
use Rattle.library_tries.specs.AssertionTries.{of_4, equal_holds, equal_fails, equal_throws, equal_throws_of_null, equal_throws_to_null, unequal_holds, unequal_fails, unequal_throws, unequal_throws_of_nulls}
use Rattle.library_tries.proofs.Telling.{as_told}
use Rattle.library_tries.proofs.assertions.assertions_of_4.Goals as goal

pub returns : goal.returns
unfolding link_library int_wrap supers nodes act step_of family resolve_field resolve_method select_virtual select_named need_of is_instance on_receiver on_receiver_int on_receiver_value utf16_chars parameters_at instruction_by basic_interfaces collection_interfaces objects texts numbers throwables errors machine_exceptions library_exceptions collections list_classes hash_classes utility_classes assertions
returns c = record { equal_holds = as_told (equal_holds of_4) refl; equal_fails = as_told (equal_fails of_4) refl; equal_throws = as_told (equal_throws of_4) refl; equal_throws_of_null = as_told (equal_throws_of_null of_4) refl; equal_throws_to_null = as_told (equal_throws_to_null of_4) refl; unequal_holds = as_told (unequal_holds of_4) refl; unequal_fails = as_told (unequal_fails of_4) refl; unequal_throws = as_told (unequal_throws of_4) refl; unequal_throws_of_nulls = as_told (unequal_throws_of_nulls of_4) refl }
