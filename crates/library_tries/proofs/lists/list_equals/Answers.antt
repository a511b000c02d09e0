use Rattle.std.proofs.Common.{refl}
use Rattle.std.specs.Int.{int_wrap}
use Rattle.std.specs.Char.Utf16.{utf16_chars}
use Rattle.class_model.specs.DescriptorReading.{parameters_at}
use Rattle.class_link.specs.Linking.{link_library}
use Rattle.class_link.specs.Opcodes.{instruction_by}
use Rattle.program_rules.specs.Programs.{supers, nodes, family}
use Rattle.program_rules.specs.Resolution.{resolve_field, resolve_method}
use Rattle.program_rules.specs.Selection.{select_virtual, select_named}
use Rattle.machine_rules.specs.Initialisation.{need_of}
use Rattle.machine_rules.specs.Lookups.{is_instance}
use Rattle.machine_rules.specs.Steps.{act, step_of}
use Rattle.library_rules.specs.Arguments.{on_receiver, on_receiver_int, on_receiver_value}
use Rattle.lib_table.specs.Interfaces.{basic_interfaces, collection_interfaces}
use Rattle.lib_table.specs.LangClasses.{objects, texts, numbers}
use Rattle.lib_table.specs.Exceptions.{throwables, errors, machine_exceptions, library_exceptions}
use Rattle.lib_table.specs.Collected.{collections, list_classes, hash_classes, utility_classes, assertions}
use Rattle.library_tries.specs.ListTries.{equal_lists, equal_empty_lists, equal_nulls_in_lists, longer_list, shorter_list, lists_that_differ, null_in_a_list, list_and_null, list_and_text, lists_of_lists}
use Rattle.library_tries.proofs.Telling.{as_told}
use Rattle.library_tries.proofs.lists.list_equals.Goals as goal

pub returns : goal.returns
unfolding link_library int_wrap supers nodes act step_of family resolve_field resolve_method select_virtual select_named need_of is_instance on_receiver on_receiver_int on_receiver_value utf16_chars parameters_at instruction_by basic_interfaces collection_interfaces objects texts numbers throwables errors machine_exceptions library_exceptions collections list_classes hash_classes utility_classes assertions
returns c = record { equal_lists = as_told equal_lists refl; equal_empty_lists = as_told equal_empty_lists refl; equal_nulls_in_lists = as_told equal_nulls_in_lists refl; longer_list = as_told longer_list refl; shorter_list = as_told shorter_list refl; lists_that_differ = as_told lists_that_differ refl; null_in_a_list = as_told null_in_a_list refl; list_and_null = as_told list_and_null refl; list_and_text = as_told list_and_text refl; lists_of_lists = as_told lists_of_lists refl }
