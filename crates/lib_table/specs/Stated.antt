-- The words of the library's table: a class, its fields and its methods.
use Prim.Native.String.{String}
use Rattle.std.specs.Prelude.{ℕ, List, [], ◌∷◌, map, Option, Some, codes}
use Rattle.class_model.specs.declared.constant.Const.{Const}
use Rattle.program_rules.specs.Names.{Name}
use Rattle.class_link.specs.declared.loaded.LibBody.{LibBody}
use Rattle.class_link.specs.declared.loaded.LibBody.TheVariants as lib
use Rattle.class_link.specs.declared.loaded.LibMethod.{LibMethod}
use Rattle.class_link.specs.declared.loaded.LibField.{LibField}
use Rattle.class_link.specs.declared.loaded.LibClass.{LibClass}
use Rattle.library_rules.specs.declared.native.Native.{Native}
use Rattle.library_rules.specs.Places.{number_of}
use Rattle.lib_table.specs.Steps.{Method, written_behind}

-- A method of a class.
pub data Row : Type 0 where
  -- one without code
  Plain : LibMethod → Row
  -- a written one: its flags, its name, its descriptor, and what is written
  Coded : ℕ → String → String → Method → Row

abbrev pub method_with : ℕ → String → String → LibBody → LibMethod
method_with flags name desc body =
    record { name = codes name; desc = codes desc; flags = flags; body = body }

-- A public native method, and a public static one (JVMS 4.6).
abbrev pub native : Native → String → String → Row
native n name desc = Plain (method_with 257 name desc (lib.Native (number_of n)))

abbrev pub static_native : Native → String → String → Row
static_native n name desc = Plain (method_with 265 name desc (lib.Native (number_of n)))

-- A public abstract method.
abbrev pub abstract : String → String → Row
abstract name desc = Plain (method_with 1025 name desc lib.Abstract)

-- A public method with code, and a public static one.
abbrev pub written : String → String → Method → Row
written name desc m = Coded 1 name desc m

abbrev pub static_written : String → String → Method → Row
static_written name desc m = Coded 9 name desc m

-- The written methods of a class have one constant pool, in which what each needs stands behind
-- what those before it need.
abbrev pub pool_of_rows : List Const → List Row → List Const
pool_of_rows pool [] = pool
pool_of_rows pool (Plain m ∷ rows) = pool_of_rows pool rows
pool_of_rows pool (Coded flags name desc m ∷ rows) = pool_of_rows (written_behind pool m).pool rows

abbrev pub methods_from : List Const → List Row → List LibMethod
methods_from pool [] = []
methods_from pool (Plain m ∷ rows) = m ∷ methods_from pool rows
methods_from pool (Coded flags name desc m ∷ rows) =
    method_with flags name desc (lib.Written (written_behind pool m).code)
    ∷ methods_from (written_behind pool m).pool rows

-- A private field.
abbrev pub field : String → String → LibField
field name desc = record { name = codes name; desc = codes desc; flags = 2 }

abbrev pub class_with :
    ℕ → String → Option Name → List String → List LibField → List Row → LibClass
class_with flags name parent interfaces fields rows = record {
  name = codes name;
  parent = parent;
  interfaces = map (λ i. codes i) interfaces;
  flags = flags;
  pool = pool_of_rows [] rows;
  fields = fields;
  methods = methods_from [] rows;
}

-- A public class with this superclass, and a final one, an abstract one (JVMS 4.1).
abbrev pub class : String → String → List String → List Row → LibClass
class name parent interfaces rows =
    class_with 33 name (Some (codes parent)) interfaces [] rows

abbrev pub final_class : String → String → List String → List Row → LibClass
final_class name parent interfaces rows =
    class_with 49 name (Some (codes parent)) interfaces [] rows

abbrev pub abstract_class : String → String → List String → List Row → LibClass
abstract_class name parent interfaces rows =
    class_with 1057 name (Some (codes parent)) interfaces [] rows

-- A public interface.
abbrev pub interface : String → List String → List Row → LibClass
interface name interfaces rows =
    class_with 1537 name (Some (codes "java/lang/Object")) interfaces [] rows
