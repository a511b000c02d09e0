use Rattle.std.proofs.Common.{refl}
use Rattle.std.specs.Int.{int_wrap}
use Rattle.std.specs.Char.Utf16.{utf16_chars}
use Rattle.class_model.specs.DescriptorReading.{parameters_at}
use Rattle.class_link.specs.Linking.{link_library}
use Rattle.class_link.specs.Opcodes.{instruction_by}
use Rattle.program_rules.specs.Programs.{supers, nodes, family}
use Rattle.program_rules.specs.Resolution.{resolve_field, resolve_method}
use Rattle.program_rules.specs.Selection.{select_virtual, select_named}
use Rattle.machine_rules.specs.Initialisation.{need_of}
use Rattle.machine_rules.specs.Lookups.{is_instance}
use Rattle.machine_rules.specs.Steps.{act, step_of}
use Rattle.library_rules.specs.Arguments.{on_receiver, on_receiver_int, on_receiver_value}
use Rattle.lib_table.specs.Interfaces.{basic_interfaces, collection_interfaces}
use Rattle.lib_table.specs.LangClasses.{objects, texts, numbers}
use Rattle.lib_table.specs.Exceptions.{throwables, errors, machine_exceptions, library_exceptions}
use Rattle.lib_table.specs.Collected.{collections, list_classes, hash_classes, utility_classes, assertions}
use Rattle.library_tries.specs.WalkTries.{walk_past_the_end, place_outside, negative_capacity, list_as_a_key}
use Rattle.library_tries.proofs.Telling.{as_told}
use Rattle.library_tries.proofs.walks.collections_throw.Goals as goal

pub returns : goal.returns
unfolding link_library int_wrap supers nodes act step_of family resolve_field resolve_method select_virtual select_named need_of is_instance on_receiver on_receiver_int on_receiver_value utf16_chars parameters_at instruction_by basic_interfaces collection_interfaces objects texts numbers throwables errors machine_exceptions library_exceptions collections list_classes hash_classes utility_classes assertions
returns c = record { walk_past_the_end = as_told walk_past_the_end refl; place_outside = as_told place_outside refl; negative_capacity = as_told negative_capacity refl; list_as_a_key = as_told list_as_a_key refl }
