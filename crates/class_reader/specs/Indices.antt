-- What the indices of a class, of its fields and of its methods have to name in the constant pool
-- (JVMS 4.1, 4.5, 4.6), and what is told of one that doesn't, at the place of the index (this
-- project's own).
use Rattle.std.specs.Prelude.{ℕ, Bool, true, false, ◌==◌, nat_eq, is_some, List, codes, Option, Some, None, option_and_then, Result, Ok, Err, if◌then◌else◌}
use Rattle.std.specs.Cmp.Lexicographic.{pointwise}
use Rattle.class_model.specs.Pool.{entry_of, text_of, class_in, class_name_of}
use Rattle.class_model.specs.DeclaredName.{is_class_name}
use Rattle.class_model.specs.declared.constant.Const.{Const}
use Rattle.class_model.specs.declared.fault.ClassFault.{ClassFault}
use Rattle.class_model.specs.declared.fault.ClassFault.TheVariants as fault
use Rattle.class_model.specs.declared.fault.DescFault.{DescFault}
use Rattle.codec_rules.specs.Sequence.{◌>>=◌}
use Rattle.mt_bytes.specs.Items.{ItemReader, u2_at}
use Rattle.mt_pool.specs.Indices.{desc_fault_at, is_some_and}

-- An index that has to pass a test; else there is a fault at its place.
abbrev pub index_or_fault : (ℕ → Bool) → (ℕ → ℕ → ClassFault) → ℕ → ℕ → Result ℕ ClassFault
index_or_fault test refusal place index = if test index then Ok index else Err (refusal index place)

abbrev pub index_at : (ℕ → Bool) → (ℕ → ℕ → ClassFault) → ItemReader ℕ
index_at test refusal input =
    u2_at input >>= λ index. if test index.0 then Ok index else Err (refusal index.0 input.at)

-- ---- classes

abbrev pub names_class : List Const → ℕ → Bool
names_class pool index = is_some (option_and_then class_in (entry_of pool index))

abbrev pub no_class : ℕ → ℕ → ClassFault
no_class index place = fault.BadIndex place

-- The class that the file declares has a name by the rule of declared names.
abbrev pub names_this : List Const → ℕ → Bool
names_this pool index = is_some_and is_class_name (class_name_of pool index)

abbrev pub no_this : List Const → ℕ → ℕ → ClassFault
no_this pool index place =
    if is_some (class_name_of pool index) then fault.BadText place else fault.BadIndex place

-- Only java/lang/Object has no superclass.
abbrev pub names_parent : List Const → ℕ → ℕ → Bool
names_parent pool this index =
    if index == 0
    then is_some_and (λ name. pointwise nat_eq name (codes "java/lang/Object"))
    (class_name_of pool this)
    else names_class pool index

-- ---- names of fields and methods

-- a text that keeps a rule of declared names
abbrev pub names_name : (List ℕ → Bool) → List Const → ℕ → Bool
names_name rule pool index = is_some_and rule (text_of pool index)

abbrev pub no_name : List Const → ℕ → ℕ → ClassFault
no_name pool index place =
    if is_some (text_of pool index) then fault.BadText place else fault.BadIndex place

-- ---- descriptors, read by a function of their text

abbrev pub is_read : {K : Type 0} → Result K DescFault → Bool
is_read (Ok kind) = true
is_read (Err e) = false

abbrev pub names_desc : {K : Type 0} → (List ℕ → Result K DescFault) → List Const → ℕ → Bool
names_desc read pool index = is_some_and (λ desc. is_read (read desc)) (text_of pool index)

abbrev pub refused : {K : Type 0} → ℕ → Result K DescFault → ClassFault
refused place (Ok kind) = fault.BadText place
refused place (Err e) = desc_fault_at place e

abbrev pub no_text : {K : Type 0} → (List ℕ → Result K DescFault) → ℕ → Option (List ℕ) → ClassFault
no_text read place None = fault.BadIndex place
no_text read place (Some desc) = refused place (read desc)

abbrev pub no_desc : {K : Type 0} → (List ℕ → Result K DescFault) → List Const → ℕ → ℕ → ClassFault
no_desc read pool index place = no_text read place (text_of pool index)
