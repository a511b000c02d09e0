-- A class of a program: its name, where it comes from, and what it means.
use Rattle.std.specs.Prelude.{◌≡◌, ◌<◌, ◌^◌, List, length, Option, Some, None}
use Rattle.class_model.specs.declared.class.Class.{Class}
use Rattle.program_rules.specs.Names.{Name}
use Rattle.program_rules.specs.Linked.{Linked}
use Rattle.class_link.specs.declared.loaded.ClassBody.{ClassBody}
use Rattle.class_link.specs.declared.loaded.ClassBody.TheVariants as body
use Rattle.class_link.specs.declared.linked.Entry.{Entry}
use Rattle.class_link.specs.declared.linked.LinkedClass.{LinkedClass}
use Rattle.class_link.specs.Symbols.{class_named}
use Rattle.class_link.specs.Edits.{class_edited}
use Rattle.class_link.specs.Linking.{link, link_library}
use Rattle.class_link.specs.Switches.{AreEntries}
use Rattle.class_link.specs.View.{linked_of}

-- The name that a class file gives to its class (JVMS 4.1, this_class).
abbrev pub own_name : Class → Name
own_name c = class_named c.pool c.this

abbrev pub body_name : ClassBody → Name
body_name (body.File loaded) = own_name loaded.class
body_name (body.Edited e) = own_name (class_edited e)
body_name (body.Library c) = c.name

-- What a class means, by where it comes from.
abbrev pub link_body : ClassBody → Linked
link_body (body.File loaded) = link loaded.class
link_body (body.Edited e) = link (class_edited e)
link_body (body.Library c) = link_library c

-- Each index means in these entries what it means in the constant pool of the class file, or of the
-- class of the library.
abbrev pub HasEntries : ClassBody → List Entry → Type 0
HasEntries (body.File loaded) es = AreEntries es loaded.class.pool
HasEntries (body.Edited e) es = AreEntries es (class_edited e).pool
HasEntries (body.Library c) es = AreEntries es c.pool

pub record Info : Type 0 where
  pub name : Name
  pub body : ClassBody
  pub linked : LinkedClass

-- The name, the meaning and the entries are those of the body, and each method has a number.
pub record IsInfo (i : Info) : Type 0 where
  pub name : i.name ≡ body_name i.body
  pub linked : linked_of i.linked ≡ link_body i.body
  pub entries : HasEntries i.body i.linked.entries
  pub few : length i.linked.methods < 2 ^ 32

-- The class as the definitions see it.
abbrev pub class_of : Info → Linked
class_of i = linked_of i.linked

-- The class of a class file that no edit made.
abbrev pub file_in : Info → Option Class
file_in i = file_of i.body
  where
    file_of : ClassBody → Option Class
    file_of (body.File loaded) = Some loaded.class
    file_of other = None
