-- What linking makes of the codes of a class file.
use Rattle.class_model.specs.declared.class.Class.{Class}
use Rattle.class_reader.specs.Spells.{IsClass}
use Rattle.class_link.specs.Linking.{link}
use Rattle.type_laws.specs.Bounds.{HasBoundedCodes}

-- The codes of a class file that has a spelling are within the bounds of a class file.
abbrev pub LinkedFilesAreBounded : Type 0
LinkedFilesAreBounded = (c : Class) → IsClass c → HasBoundedCodes (link c)
