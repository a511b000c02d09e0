-- The bytes of a constant pool (JVMS 4.4).
use Rattle.std.specs.Prelude.{ℕ, ◌+◌, ◌/◌, ◌%◌, ◌^◌, List, [], ◌++◌, length}
use Rattle.std.specs.Int.{w8, w16, w32, w64, to_be_bytes, cast_unsigned}
use Rattle.std.specs.List.{flat_map}
use Rattle.class_model.specs.Text.{text}
use Rattle.class_model.specs.declared.constant.Const.{Const}
use Rattle.class_model.specs.declared.constant.Const.TheVariants as const

abbrev pub u1 : ℕ → List ℕ
u1 n = to_be_bytes w8 n

abbrev pub u2 : ℕ → List ℕ
u2 n = to_be_bytes w16 n

abbrev pub u4 : ℕ → List ℕ
u4 n = to_be_bytes w32 n

-- high_bytes and low_bytes, a number of four bytes each (JVMS 4.4.5)
abbrev pub u8 : ℕ → List ℕ
u8 n = u4 (n / 2 ^ 32) ++ u4 (n % 2 ^ 32)

abbrev pub two_indices : ℕ → ℕ → List ℕ
two_indices first second = u2 first ++ u2 second

-- The kind of an entry (JVMS table 4.4-A). The place behind a long or a double has none.
abbrev pub tag_of : Const → ℕ
tag_of (const.Utf8 units) = 1
tag_of (const.Integer n) = 3
tag_of (const.Float bits) = 4
tag_of (const.Long n) = 5
tag_of (const.Double bits) = 6
tag_of (const.Class name) = 7
tag_of (const.Text units) = 8
tag_of (const.Field class pair) = 9
tag_of (const.Method class pair) = 10
tag_of (const.IMethod class pair) = 11
tag_of (const.Pair name desc) = 12
tag_of (const.Handle kind member) = 15
tag_of (const.MethodKind desc) = 16
tag_of (const.Dynamic bootstrap pair) = 18
tag_of const.Second = 0

-- What stands behind the tag (JVMS 4.4.1 to 4.4.10). Signed numbers are in two's complement.
abbrev pub content : Const → List ℕ
content (const.Utf8 units) = u2 (length (text units)) ++ text units
content (const.Integer n) = u4 (cast_unsigned w32 n)
content (const.Float bits) = u4 bits
content (const.Long n) = u8 (cast_unsigned w64 n)
content (const.Double bits) = u8 bits
content (const.Class name) = u2 name
content (const.Text units) = u2 units
content (const.Field class pair) = two_indices class pair
content (const.Method class pair) = two_indices class pair
content (const.IMethod class pair) = two_indices class pair
content (const.Pair name desc) = two_indices name desc
content (const.Handle kind member) = u1 kind ++ u2 member
content (const.MethodKind desc) = u2 desc
content (const.Dynamic bootstrap pair) = two_indices bootstrap pair
content const.Second = []

-- The bytes of an entry. `Second` has none: it is the other place of the entry before it.
abbrev pub entry_bytes : Const → List ℕ
entry_bytes const.Second = []
entry_bytes other = u1 (tag_of other) ++ content other

-- The bytes of a pool: constant_pool_count, which is one more than the number of places, and the
-- entries.
abbrev pub pool_bytes : List Const → List ℕ
pool_bytes pool = u2 (length pool + 1) ++ flat_map entry_bytes pool
