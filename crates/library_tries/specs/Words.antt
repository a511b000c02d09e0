-- The words of the programs: what is put on the stack, and what is called.
use Prim.Native.String.{String}
use Rattle.std.specs.Prelude.{ℕ, ℤ, true, List, [], ◌∷◌, ◌++◌, codes}
use Rattle.program_rules.specs.Instructions.{Instruction, New, Dup, Pop, NullConstant, IntConstant, TextConstant, ReferenceLoad, ReferenceStore, InvokeInterface}
use Rattle.class_link.specs.Symbols.{method_ref}
use Rattle.lib_table.specs.Steps.{call}
use Rattle.lib_table.specs.Typed.{meant}
use Rattle.library_tries.specs.Programs.{Part, Does}

-- Calls, by the opcodes of invokevirtual, invokespecial and invokestatic (JVMS 6.5).
abbrev pub virtual : String → String → String → Instruction
virtual class name desc = meant (call 0xb6 class name desc)

abbrev pub special : String → String → String → Instruction
special class name desc = meant (call 0xb7 class name desc)

abbrev pub static : String → String → String → Instruction
static class name desc = meant (call 0xb8 class name desc)

abbrev pub through : String → String → String → Instruction
through class name desc =
    InvokeInterface (method_ref true (codes class) (codes name) (codes desc))

-- ---- values

abbrev pub text : String → List Instruction
text t = TextConstant (codes t) ∷ []

abbrev pub null : List Instruction
null = NullConstant ∷ []

-- An Integer.
abbrev pub boxed : ℤ → List Instruction
boxed z = IntConstant z ∷ static "java/lang/Integer" "valueOf" "(I)Ljava/lang/Integer;" ∷ []

-- ---- objects that are kept in locals

-- A new object of a class as a local.
abbrev pub makes : ℕ → String → Part
makes n class =
    Does (New (codes class) ∷ Dup ∷ special class "<init>" "()V" ∷ ReferenceStore n ∷ []) 0

abbrev pub makes_list : Part
makes_list = makes 0 "java/util/ArrayList"

abbrev pub makes_map : Part
makes_map = makes 0 "java/util/HashMap"

abbrev pub makes_set : Part
makes_set = makes 0 "java/util/HashSet"

-- A call of the object of local 0 with these arguments.
abbrev pub on : String → String → String → List Instruction → List Instruction
on class name desc args = ReferenceLoad 0 ∷ (args ++ virtual class name desc ∷ [])

abbrev pub on_list : String → String → List Instruction → List Instruction
on_list = on "java/util/ArrayList"

abbrev pub on_map : String → String → List Instruction → List Instruction
on_map = on "java/util/HashMap"

abbrev pub on_set : String → String → List Instruction → List Instruction
on_set = on "java/util/HashSet"

-- ---- what is added

-- An element of the list of a local.
abbrev pub adds_to : ℕ → List Instruction → Part
adds_to n push =
    Does (ReferenceLoad n
    ∷ (push ++ virtual "java/util/ArrayList" "add" "(Ljava/lang/Object;)Z" ∷ Pop ∷ [])) 0

abbrev pub adds : List Instruction → Part
adds = adds_to 0

-- An entry of the map, with the steps inside of `put`.
abbrev pub put : List Instruction → List Instruction → List Instruction
put key value =
    on_map "put" "(Ljava/lang/Object;Ljava/lang/Object;)Ljava/lang/Object;" (key ++ value)

abbrev pub puts : List Instruction → List Instruction → ℕ → Part
puts key value steps = Does (put key value ++ Pop ∷ []) steps

-- An element of the set, with the steps inside of `add`.
abbrev pub add : List Instruction → List Instruction
add key = on_set "add" "(Ljava/lang/Object;)Z" key

abbrev pub joins : List Instruction → ℕ → Part
joins key steps = Does (add key ++ Pop ∷ []) steps
