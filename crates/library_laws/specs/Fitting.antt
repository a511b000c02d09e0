-- The classes that keep items beside the collections.
use Rattle.std.specs.Prelude.{List, filter}
use Rattle.class_link.specs.declared.loaded.LibClass.{LibClass}
use Rattle.lib_table.specs.LangClasses.{objects}
use Rattle.library_laws.specs.Natives.{is_keeping}

-- Those of `objects` that keep items: Enum and Optional.
abbrev pub keeping_objects : List LibClass
keeping_objects = filter is_keeping objects
