-- The library as the machine sees it, in a form that computes: what `roll-Code` has rolled is no
-- part of it.
use Prim.Native.String.{String}
use Rattle.std.proofs.Common.{◌≡◌, ◌∙◌, refl, ap, append-nil, ℕ, ◌+◌, List, [], ◌∷◌, ◌++◌, map, length, take, drop, codes}
use Rattle.std.specs.List.{flat_map}
use Rattle.class_model.specs.DescriptorReading.{parameters_at}
use Rattle.std.specs.Char.Utf16.{utf16_chars}
use Rattle.class_model.specs.declared.constant.Const.{Const}
use Rattle.class_model.specs.declared.instruction.Insn.{Insn}
use Rattle.class_model.specs.declared.attribute.Attr.{Attr, roll-Attr}
use Rattle.class_model.specs.declared.attribute.Body.{Body}
use Rattle.class_model.specs.declared.attribute.Body.TheVariants as body
use Rattle.class_model.specs.declared.attribute.Body.TheOpen.{Body-F, Code-F}
use Rattle.class_model.specs.declared.attribute.Body.TheViews.{the_lemmas, out-roll-Code}
use Rattle.class_model.specs.declared.attribute.Code.{Code}
use Rattle.class_model.specs.declared.frame.Frame.{Frame}
use Rattle.program_rules.specs.Names.{Name}
use Rattle.program_rules.specs.Instructions.{Instruction}
use Rattle.program_rules.specs.Types.{VType, IntType, Obj, FrameShape, SameLocals, Appended, StatedFrame}
use Rattle.program_rules.specs.Linked.{Linked, LinkedCode, LinkedLine, LinkedMethod, HasCode}
use Rattle.class_link.specs.declared.loaded.LibClass.{LibClass}
use Rattle.class_link.specs.Linking.{row_in, method_with, content_of, lines_of, frame_in, frames_of, code_in, library_method, link_library}
use Rattle.class_link.specs.Opcodes.{instruction_in, instruction_by}
use Rattle.lib_table.specs.Stated as stated
use Rattle.lib_table.specs.Stated.{Row, Plain, Coded, pool_of_rows, methods_from}
use Rattle.lib_table.specs.Frames.{Local, AnInt, AnObject, FrameAt, with_name, frames_from, frame_table}
use Rattle.lib_table.specs.Steps.{Method, written_behind, pool_from, code_from}
use Rattle.lib_table.specs.Typed.{meant}
use Rattle.lib_table.specs.Interfaces.{basic_interfaces, collection_interfaces}
use Rattle.lib_table.specs.LangClasses.{objects, texts, numbers, objects_methods, string_methods, string_builder_methods}
use Rattle.lib_table.specs.Exceptions.{throwables, errors, machine_exceptions, library_exceptions}
use Rattle.lib_table.specs.Collected.{collections, list_classes, hash_classes, utility_classes, assertions, array_list_methods, hashed_methods, hash_map_methods, hash_set_methods, assert_methods, assertions_methods}
use Rattle.lib_table.specs.Library.{library_meant, class_meant}

-- A frame as the machine's rules have it.
abbrev type_by : Local → VType
type_by AnInt = IntType
type_by (AnObject c) = Obj c

abbrev shape_by : List Local → FrameShape
shape_by [] = SameLocals
shape_by (l ∷ ls) = Appended (map type_by (l ∷ ls))

abbrev frame_by : FrameAt → StatedFrame
frame_by f = record { at = f.at; shape = shape_by f.more }

abbrev code_with : List Instruction → List LinkedLine → List StatedFrame → LinkedCode
code_with is lines frames = record { max_stack = 5; max_locals = 4; instructions = is; rows = []; lines = lines; frames = frames }

-- ---- one method

-- What the instructions and the frames of a method are, and what they mean by a pool.
abbrev parts_by : Method → List Instruction × List StatedFrame
parts_by m = (map meant m.steps, map frame_by m.frames)

abbrev parts_in : List Const → List Const → Method → List Instruction × List StatedFrame
parts_in pool before m = (map (instruction_in pool) (code_from [] before m.steps), map (frame_in pool) (frames_from (with_name (pool_from before m.steps)) m.frames))

abbrev code_by : List Instruction × List StatedFrame → LinkedCode
code_by parts = code_with parts.0 [] parts.1

abbrev parts_meant : List Const → Code-F Body Attr Code → LinkedCode
parts_meant pool c = record { max_stack = c.max_stack; max_locals = c.max_locals; instructions = map (instruction_in pool) c.insns; rows = map (row_in pool) c.rows; lines = flat_map (λ a. lines_of (content_of a)) c.attrs; frames = flat_map (λ a. frames_of pool (content_of a)) c.attrs }

abbrev parts_of : List Insn → List Attr → Code-F Body Attr Code
parts_of insns attrs = record { max_stack = 5; max_locals = 4; insns = insns; rows = []; attrs = attrs }

frames_out : (name : ℕ) (frames : List Frame) → content_of (roll-Attr (record { name = name; body = body.Frames frames })) ≡ Body-F.Frames frames
frames_out name frames = search the_lemmas

module _ (pool before : List Const) (m : Method) where
  abbrev insns : List Insn
  insns = code_from [] before m.steps

  abbrev frames : List Frame
  frames = frames_from (with_name (pool_from before m.steps)) m.frames

  code_is : code_in pool (written_behind before m).code ≡ code_by (parts_in pool before m)
  code_is =
      let table = length (pool_from before m.steps) + 1 in
      let attrs = frame_table table frames in
      ap (parts_meant pool) (out-roll-Code (parts_of insns attrs))
      ∙ ap (λ b. code_with (map (instruction_in pool) insns) (lines_of b ++ []) (frames_of pool b ++ [])) (frames_out table frames)
      ∙ ap (code_with (map (instruction_in pool) insns) []) (append-nil (map (frame_in pool) frames))

-- ---- the methods of a class

-- Of each written method what its parts are, and what they mean by the pool.
abbrev all_by : List Row → List (List Instruction × List StatedFrame)
all_by [] = []
all_by (Plain m ∷ rows) = all_by rows
all_by (Coded flags name desc m ∷ rows) = parts_by m ∷ all_by rows

abbrev all_in : List Const → List Const → List Row → List (List Instruction × List StatedFrame)
all_in pool before [] = []
all_in pool before (Plain m ∷ rows) = all_in pool before rows
all_in pool before (Coded flags name desc m ∷ rows) = parts_in pool before m ∷ all_in pool (written_behind before m).pool rows

abbrev coded : ℕ → String → String → LinkedCode → LinkedMethod
coded flags name desc code = method_with flags (codes name) (codes desc) (HasCode code)

abbrev methods_by : List Const → List Row → List LinkedMethod
methods_by pool [] = []
methods_by pool (Plain m ∷ rows) = library_method pool m ∷ methods_by pool rows
methods_by pool (Coded flags name desc m ∷ rows) = coded flags name desc (code_by (parts_by m)) ∷ methods_by pool rows

head_same : {A : Type 0} (x y : A) (xs ys : List A) → x ∷ xs ≡ y ∷ ys → (x ≡ y) × (xs ≡ ys)
head_same x y xs ys e = (cc, cc)

methods_are : (pool before : List Const) (rows : List Row) → all_in pool before rows ≡ all_by rows → map (library_method pool) (methods_from before rows) ≡ methods_by pool rows
methods_are pool before [] e = refl
methods_are pool before (Plain m ∷ rows) e = ap (λ ms. library_method pool m ∷ ms) (methods_are pool before rows e)
methods_are pool before (Coded flags name desc m ∷ rows) e =
    let behind = (written_behind before m).pool in
    let h = head_same (parts_in pool before m) (parts_by m) (all_in pool behind rows) (all_by rows) e in
    ap (λ code. coded flags name desc code ∷ map (library_method pool) (methods_from behind rows)) (code_is pool before m ∙ ap code_by h.0)
    ∙ ap (λ ms. coded flags name desc (code_by (parts_by m)) ∷ ms) (methods_are pool behind rows h.1)

-- ---- the classes with written methods

abbrev by_rows : List Row → List LinkedMethod
by_rows rows = methods_by (pool_of_rows [] rows) rows

-- By the pool of their class the written methods mean what they are.
abbrev AreSame : List Row → Type 0
AreSame rows = all_in (pool_of_rows [] rows) [] rows ≡ all_by rows

are_by_rows : (rows : List Row) → AreSame rows → map (library_method (pool_of_rows [] rows)) (methods_from [] rows) ≡ by_rows rows
are_by_rows rows same = methods_are (pool_of_rows [] rows) [] rows same

objects_same : AreSame objects_methods
unfolding parameters_at instruction_by utf16_chars
objects_same = refl

string_same : AreSame string_methods
unfolding parameters_at instruction_by utf16_chars
string_same = refl

builder_same : AreSame string_builder_methods
unfolding parameters_at instruction_by utf16_chars
builder_same = refl

list_same : AreSame array_list_methods
unfolding parameters_at instruction_by utf16_chars
list_same = refl

hashed_same : AreSame hashed_methods
unfolding parameters_at instruction_by utf16_chars
hashed_same = refl

map_same : AreSame hash_map_methods
unfolding parameters_at instruction_by utf16_chars
map_same = refl

set_same : AreSame hash_set_methods
unfolding parameters_at instruction_by utf16_chars
set_same = refl

assert_same : AreSame assert_methods
unfolding parameters_at instruction_by utf16_chars
assert_same = refl

assertions_same : AreSame assertions_methods
unfolding parameters_at instruction_by utf16_chars
assertions_same = refl

-- ---- the library

-- A class with these methods in the place of its own.
abbrev with_methods : LibClass → List LinkedMethod → Name × Linked
with_methods c ms = (c.name, record (link_library c) { methods = ms })

abbrev objects_with : List LinkedMethod → Name × Linked
objects_with ms = with_methods (stated.final_class "java/util/Objects" "java/lang/Object" [] objects_methods) ms

abbrev string_with : List LinkedMethod → Name × Linked
string_with ms = with_methods (stated.final_class "java/lang/String" "java/lang/Object" ("java/lang/CharSequence" ∷ "java/lang/Comparable" ∷ []) string_methods) ms

abbrev builder_with : List LinkedMethod → Name × Linked
builder_with ms = with_methods (stated.final_class "java/lang/StringBuilder" "java/lang/Object" [] string_builder_methods) ms

abbrev list_with : List LinkedMethod → Name × Linked
list_with ms = with_methods (stated.class "java/util/ArrayList" "java/lang/Object" ("java/util/List" ∷ []) array_list_methods) ms

abbrev hashed_with : List LinkedMethod → Name × Linked
hashed_with ms = with_methods (stated.abstract_class "mt/Hashed" "java/lang/Object" [] hashed_methods) ms

abbrev map_with : List LinkedMethod → Name × Linked
map_with ms = with_methods (stated.class "java/util/HashMap" "mt/Hashed" ("java/util/Map" ∷ []) hash_map_methods) ms

abbrev set_with : List LinkedMethod → Name × Linked
set_with ms = with_methods (stated.class "java/util/HashSet" "mt/Hashed" ("java/util/Set" ∷ []) hash_set_methods) ms

abbrev assert_with : List LinkedMethod → Name × Linked
assert_with ms = with_methods (stated.class "org/junit/Assert" "java/lang/Object" [] assert_methods) ms

abbrev assertions_with : List LinkedMethod → Name × Linked
assertions_with ms = with_methods (stated.class "org/junit/jupiter/api/Assertions" "java/lang/Object" [] assertions_methods) ms

-- The library in which these are the methods of the nine classes.
abbrev library_with : (o s b l h m t a e : List LinkedMethod) → List (Name × Linked)
library_with o s b l h m t a e =
    (map class_meant (basic_interfaces ++ collection_interfaces)
    ++ ((map class_meant (take 4 objects) ++ objects_with o ∷ []) ++ (string_with s ∷ builder_with b ∷ map class_meant (drop 2 texts))) ++ map class_meant numbers)
    ++ (map class_meant ((throwables ++ errors) ++ (machine_exceptions ++ library_exceptions))
    ++ ((list_with l ∷ hashed_with h ∷ map_with m ∷ set_with t ∷ map class_meant (drop 4 collections)) ++ (assert_with a ∷ assertions_with e ∷ [])))

abbrev pub table : List (Name × Linked)
table = library_with (by_rows objects_methods) (by_rows string_methods) (by_rows string_builder_methods) (by_rows array_list_methods) (by_rows hashed_methods) (by_rows hash_map_methods) (by_rows hash_set_methods) (by_rows assert_methods) (by_rows assertions_methods)

all_nine : {A B : Type 0} (f : (o s b l h m t a e : A) → B) (o o1 s s1 b b1 l l1 h h1 m m1 t t1 a a1 e e1 : A) → o ≡ o1 → s ≡ s1 → b ≡ b1 → l ≡ l1 → h ≡ h1 → m ≡ m1 → t ≡ t1 → a ≡ a1 → e ≡ e1 → f o s b l h m t a e ≡ f o1 s1 b1 l1 h1 m1 t1 a1 e1
all_nine f o o1 s s1 b b1 l l1 h h1 m m1 t t1 a a1 e e1 e1s e2s e3s e4s e5s e6s e7s e8s e9s = cc

pub is_table : library_meant ≡ table
unfolding library_meant link_library basic_interfaces collection_interfaces objects texts numbers throwables errors machine_exceptions library_exceptions collections list_classes hash_classes utility_classes assertions
is_table =
    all_nine library_with _ _ _ _ _ _ _ _ _ _ _ _ _ _ _ _ _ _
    (are_by_rows objects_methods objects_same)
    (are_by_rows string_methods string_same)
    (are_by_rows string_builder_methods builder_same)
    (are_by_rows array_list_methods list_same)
    (are_by_rows hashed_methods hashed_same)
    (are_by_rows hash_map_methods map_same)
    (are_by_rows hash_set_methods set_same)
    (are_by_rows assert_methods assert_same)
    (are_by_rows assertions_methods assertions_same)
