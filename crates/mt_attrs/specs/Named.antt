-- What an index in an attribute may name in the constant pool (JVMS 4.7), and what it is told where
-- it names something else (this project's own).
use Rattle.std.specs.Prelude.{◌≡◌, ◌≢◌, ℕ, ◌<◌, ◌^◌, Bool, true, false, ◌||◌, ◌==◌, nat_eq, List, codes, Option, Some, None, Result, Ok, Err}
use Rattle.std.specs.Int.{w16}
use Rattle.std.specs.Cmp.Lexicographic.{pointwise}
use Rattle.std.specs.Option.{option_map}
use Rattle.class_model.specs.Pool.{text_of}
use Rattle.class_model.specs.DescriptorReading.{field_kind}
use Rattle.class_model.specs.declared.constant.Const.{Const}
use Rattle.class_model.specs.declared.constant.Const.TheVariants as const
use Rattle.class_model.specs.declared.kind.Kind.{Kind}
use Rattle.class_model.specs.declared.fault.ClassFault.{ClassFault}
use Rattle.class_model.specs.declared.fault.ClassFault.TheVariants as fault
use Rattle.class_model.specs.declared.fault.DescFault.{DescFault}
use Rattle.class_model.specs.declared.fault.DescFault.TheVariants as desc_fault
use Rattle.mt_insn.specs.Named.{names, is_class}
use Rattle.mt_attrs.specs.Item.{PartReader, number_where}

-- ---- kinds of entries

abbrev pub is_text : Const → Bool
is_text (const.Utf8 units) = true
is_text other = false

-- The value of a constant field (JVMS 4.7.2), whatever the field's type, which is this project's
-- own choice.
abbrev pub is_value : Const → Bool
is_value (const.Integer n) = true
is_value (const.Float bits) = true
is_value (const.Long n) = true
is_value (const.Double bits) = true
is_value (const.Text text) = true
is_value other = false

-- The constant of an annotation's element by the element's tag (JVMS 4.7.16.1).
abbrev pub is_constant : ℕ → Const → Bool
is_constant tag (const.Integer n) =
    tag == 66 || (tag == 67 || (tag == 73 || (tag == 83 || tag == 90)))
is_constant tag (const.Double bits) = tag == 68
is_constant tag (const.Float bits) = tag == 70
is_constant tag (const.Long n) = tag == 74
is_constant tag (const.Utf8 units) = tag == 115
is_constant tag other = false

-- 0, or a class: what a handler catches (JVMS 4.7.3).
abbrev pub is_caught : List Const → ℕ → Bool
is_caught pool index = index == 0 || names is_class pool index

-- ---- descriptors

abbrev pub is_described : Option (Result Kind DescFault) → Bool
is_described (Some (Ok kind)) = true
is_described other = false

-- An index that names no text; a text that is in the grammar and has a float as a kind; and any
-- other text.
abbrev pub described_refusal : ℕ → Option (Result Kind DescFault) → ClassFault
described_refusal at None = fault.BadIndex at
described_refusal at (Some (Err desc_fault.Float)) = fault.FloatUsed at
described_refusal at (Some other) = fault.BadText at

-- what the text that an index names means as a field's descriptor
abbrev pub described_by : List Const → ℕ → Option (Result Kind DescFault)
described_by pool index = option_map field_kind (text_of pool index)

-- The index names a field's descriptor.
abbrev pub names_type : List Const → ℕ → Bool
names_type pool index = is_described (described_by pool index)

abbrev pub is_name : List ℕ → Option (List ℕ) → Bool
is_name name (Some text) = pointwise nat_eq text name
is_name name None = false

-- The index names this text.
abbrev pub names_text : List Const → ℕ → List ℕ → Bool
names_text pool index name = is_name name (text_of pool index)

-- The index names a result's descriptor: V, or a field's descriptor.
abbrev pub names_result : List Const → ℕ → Bool
names_result pool index = names_text pool index (codes "V") || names_type pool index

abbrev pub type_refusal : List Const → ℕ → ℕ → ClassFault
type_refusal pool at index = described_refusal at (described_by pool index)

-- ---- indices

abbrev pub index_refusal : ℕ → ℕ → ClassFault
index_refusal at index = fault.BadIndex at

-- an index of an entry of a kind
abbrev pub index_at : (Const → Bool) → List Const → PartReader ℕ
index_at kind pool input = number_where w16 (names kind pool) index_refusal input

abbrev pub caught_at : List Const → PartReader ℕ
caught_at pool input = number_where w16 (is_caught pool) index_refusal input

abbrev pub type_at : List Const → PartReader ℕ
type_at pool input = number_where w16 (names_type pool) (type_refusal pool) input

abbrev pub result_at : List Const → PartReader ℕ
result_at pool input = number_where w16 (names_result pool) (type_refusal pool) input

-- ---- which indices have bytes

abbrev pub IsIndex : (ℕ → Bool) → ℕ → Type 0
IsIndex test index = (index < 2 ^ 16) × (test index ≡ true)

-- A call told whether a descriptor that stands at a place is one without floats, or ran out of
-- memory.
abbrev pub Described : ℕ → Option (Result Kind DescFault) → Result Unit ClassFault → Type 0
Described at desc (Ok value) = is_described desc ≡ true
Described at desc (Err e) =
    e ≢ fault.Memory → (is_described desc ≡ false) × (described_refusal at desc ≡ e)
