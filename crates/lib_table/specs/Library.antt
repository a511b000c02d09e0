-- The whole library, class by class (this project's own), and what it means to the machine.
use Rattle.std.specs.Prelude.{List, ◌++◌, map}
use Rattle.program_rules.specs.Names.{Name}
use Rattle.program_rules.specs.Linked.{Linked}
use Rattle.class_link.specs.declared.loaded.LibClass.{LibClass}
use Rattle.class_link.specs.Linking.{link_library}
use Rattle.lib_table.specs.Interfaces.{basic_interfaces, collection_interfaces}
use Rattle.lib_table.specs.LangClasses.{objects, texts, numbers}
use Rattle.lib_table.specs.Exceptions.{throwables, errors, machine_exceptions, library_exceptions}
use Rattle.lib_table.specs.Collected.{collections, assertions}

abbrev pub interfaces : List LibClass
interfaces = basic_interfaces ++ collection_interfaces

abbrev pub lang_classes : List LibClass
lang_classes = (objects ++ texts) ++ numbers

abbrev pub exceptions : List LibClass
exceptions = (throwables ++ errors) ++ (machine_exceptions ++ library_exceptions)

abbrev pub library : List LibClass
library = (interfaces ++ lang_classes) ++ (exceptions ++ (collections ++ assertions))

-- A class of the library as it is linked, with its name.
abbrev pub class_meant : LibClass → Name × Linked
class_meant c = (c.name, link_library c)

unfoldable pub library_meant : List (Name × Linked)
library_meant = map class_meant library
