-- The tests over the table come out true.
use Rattle.std.proofs.Common.{◌≡◌, true, map, refl}
use Rattle.library_rules.specs.declared.native.TheConstants.{NATIVES}
use Rattle.library_rules.specs.Places.{number_of}
use Rattle.lib_table.specs.Interfaces.{basic_interfaces, collection_interfaces}
use Rattle.lib_table.specs.LangClasses.{objects, texts, numbers}
use Rattle.lib_table.specs.Exceptions.{throwables, errors, machine_exceptions, library_exceptions}
use Rattle.lib_table.specs.Collected.{collections, list_classes, hash_classes, utility_classes, assertions}
use Rattle.lib_table.specs.Written.{written_methods}
use Rattle.lib_table.specs.Library.{library}
use Rattle.lib_table.specs.Whole.{is_whole, have_own_names, are_places, are_found}

pub whole : is_whole library ≡ true
unfolding basic_interfaces collection_interfaces objects texts numbers throwables errors machine_exceptions library_exceptions collections list_classes hash_classes utility_classes assertions
whole = refl

pub distinct : have_own_names library ≡ true
unfolding basic_interfaces collection_interfaces objects texts numbers throwables errors machine_exceptions library_exceptions collections list_classes hash_classes utility_classes assertions
distinct = refl

pub places : are_places 0 (map number_of NATIVES) ≡ true
places = refl

pub found : are_found library written_methods ≡ true
unfolding basic_interfaces collection_interfaces objects texts numbers throwables errors machine_exceptions library_exceptions collections list_classes hash_classes utility_classes assertions written_methods
found = refl
