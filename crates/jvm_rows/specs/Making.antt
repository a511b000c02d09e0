-- The rows that make something new, and the length of an array.
use Rattle.std.specs.Prelude.{◌≡◌, ℕ, ◌+◌, Bool, [], ℤ, pos, negsuc, List, ◌∷◌, drop, length, Option, None, Some}
use Rattle.program_rules.specs.declared.value.Value.{Value}
use Rattle.program_rules.specs.declared.value.Value.TheVariants.{Int}
use Rattle.program_rules.specs.Names.{Name}
use Rattle.program_rules.specs.Kinds.{Kind}
use Rattle.program_rules.specs.Layout.{values_of, words_of}
use Rattle.program_rules.specs.Objects.{Plain}
use Rattle.program_rules.specs.Outlines.{is_abstract_class}
use Rattle.program_rules.specs.Programs.{Family}
use Rattle.machine_rules.specs.declared.machine.Limits.{Limits}
use Rattle.machine_rules.specs.State as def
use Rattle.machine_rules.specs.Effects.{allocate, unless_full, pushes}
use Rattle.machine_rules.specs.Arrays.{makes_array, makes_primitive_array, measures_array, pushes_new, on_array}
use Rattle.machine_rules.specs.NewObjects.{object_of_class}
use Rattle.machine_rules.specs.TypeRows.{loads_text, makes_instance}
use Rattle.class_link.specs.Info.{Info}
use Rattle.class_table.specs.Table.{name_at}
use Rattle.jvm_rows.specs.Effects.{RowOf}

-- What makes an object, or finds the one that was made; none where the heap would be passed.
abbrev pub Make : Type 0
Make = Limits → def.World → Option (def.World × ℕ)

-- The reference to what was made is pushed in the place of so many values; where the heap would be
-- passed the run is over.
abbrev pub made_row : Make → ℕ → RowOf
made_row make count = λ q room w f fs.
    unless_full w (f ∷ fs) (make q w) (pushes_new f fs room (drop count f.stack))

-- ---- arrays

-- A count that isn't below 0.
abbrev pub size_in : ℤ → Option ℕ
size_in (pos n) = Some n
size_in (negsuc n) = None

-- The row of `anewarray` once its class was resolved, by the kind of the elements.
abbrev pub array_row : Kind → RowOf
array_row k = λ q room w f fs. makes_array q w f fs room k

-- The row of `newarray`.
abbrev pub primitive_array_row : Kind → RowOf
primitive_array_row k = λ q room w f fs. makes_primitive_array q w f fs room k

-- The row of `arraylength`.
abbrev pub length_row : RowOf
length_row = λ q room w f fs. measures_array q w f fs room

-- The same once the array was read.
abbrev pub length_of_row : ℕ → RowOf
length_of_row x = λ q room w f fs.
    on_array q w (f ∷ fs) (Some x) (λ y b k.
    pushes w f fs room (Int (pos (length b.values))) (drop 1 f.stack))

-- ---- texts, classes, instances

-- The row of `ldc` of a text.
abbrev pub text_row : Name → RowOf
text_row t = λ q room w f fs. loads_text q w f fs room t

-- The row of `ldc` of a class, once it was resolved.
abbrev pub class_row : Name → RowOf
class_row n = λ q room w f fs.
    unless_full w (f ∷ fs) (object_of_class q w n) (pushes_new f fs room f.stack)

-- The row of `new`, once its class was resolved and begun.
abbrev pub instance_row : Name → Family → RowOf
instance_row n c = λ q room w f fs. makes_instance q f fs room n w c

-- What makes an object of a class by its number, with these values.
abbrev pub makes_plain : List Info → ℕ → List Value → ℕ → Make
makes_plain p class values more = λ q w.
    allocate q w
    (record { kind = Plain (name_at p class); values = values; text = []; items = [] }) (1 + more)

-- The instances of a class by its number hold these values at first (JVMS 2.3, 2.4), and take one
-- word and so many more.
pub record AreInstances
    (p : List Info) (id : ℕ) (is_abstract : Bool) (values : List Value) (more : ℕ) (n : Name)
    (c : Family) : Type 0 where
  pub name : n ≡ name_at p id
  pub kind : is_abstract_class c.class ≡ is_abstract
  pub held : values ≡ values_of c.rising
  pub words : 1 + more ≡ words_of c.rising
