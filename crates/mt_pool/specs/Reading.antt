-- A constant pool read entry by entry, up to the first fault (JVMS 4.4). Each number is an item,
-- and so are the bytes of a text.
use Rattle.std.specs.Prelude.{ℕ, zero, suc, ◌+◌, ◌*◌, ◌^◌, ◌==◌, ◌&&◌, Bool, true, false, not, nat_le, List, [], ◌∷◌, Result, Ok, Err, if◌then◌else◌}
use Rattle.std.specs.Int.{w32, w64, cast_signed}
use Rattle.std.specs.Option.{ok_or}
use Rattle.class_model.specs.Text.{units_of}
use Rattle.class_model.specs.Pool.{is_wide}
use Rattle.class_model.specs.declared.constant.Const.{Const}
use Rattle.class_model.specs.declared.constant.Const.TheVariants as const
use Rattle.class_model.specs.declared.fault.ClassFault.{ClassFault}
use Rattle.class_model.specs.declared.fault.ClassFault.TheVariants as fault
use Rattle.codec_rules.specs.Sequence.{◌>>=◌}
use Rattle.mt_bytes.specs.Items.{ItemReader, u1_at, u2_at, u4_at, take_at}

-- the code units of a text, whose entry begins at a place
abbrev pub units_or : ℕ → List ℕ → Result (List ℕ) ClassFault
units_or place bytes = ok_or (units_of bytes) (fault.BadText place)

-- A text: the number of its bytes, and its bytes in modified UTF-8. A wrong one is named by the
-- place of its entry.
unfoldable pub text_at : ℕ → ItemReader Const
text_at place input = do
  len ← u2_at input
  bytes ← take_at len.0 len.1
  units ← units_or place bytes.0
  Ok (const.Utf8 units, bytes.1)

unfoldable pub integer_at : ItemReader Const
integer_at input = do
  n ← u4_at input
  Ok (const.Integer (cast_signed w32 n.0), n.1)

unfoldable pub float_at : ItemReader Const
float_at input = do
  bits ← u4_at input
  Ok (const.Float bits.0, bits.1)

-- high_bytes and low_bytes
unfoldable pub u8_at : ItemReader ℕ
u8_at input = do
  high ← u4_at input
  low ← u4_at high.1
  Ok (high.0 * 2 ^ 32 + low.0, low.1)

unfoldable pub long_at : ItemReader Const
long_at input = do
  n ← u8_at input
  Ok (const.Long (cast_signed w64 n.0), n.1)

unfoldable pub double_at : ItemReader Const
double_at input = do
  bits ← u8_at input
  Ok (const.Double bits.0, bits.1)

-- an entry of one index
unfoldable pub one_at : (ℕ → Const) → ItemReader Const
one_at make input = do
  index ← u2_at input
  Ok (make index.0, index.1)

-- an entry of two numbers of two bytes
unfoldable pub two_at : (ℕ → ℕ → Const) → ItemReader Const
two_at make input = do
  first ← u2_at input
  second ← u2_at first.1
  Ok (make first.0 second.0, second.1)

-- REF_getField to REF_invokeInterface (JVMS table 5.4.3.5-A)
abbrev pub is_handle_kind : ℕ → Bool
is_handle_kind kind = nat_le 1 kind && nat_le kind 9

unfoldable pub handle_kind_at : ItemReader ℕ
handle_kind_at input =
    u1_at input >>= λ kind.
    if is_handle_kind kind.0 then Ok kind else Err (fault.BadTag input.at kind.0)

unfoldable pub handle_at : ItemReader Const
handle_at input = do
  kind ← handle_kind_at input
  member ← u2_at kind.1
  Ok (const.Handle kind.0 member.0, member.1)

-- what stands behind a tag, whose place is given
abbrev pub tagged_at : ℕ → ℕ → ItemReader Const
tagged_at place tag input =
    if tag == 1 then text_at place input
    else if tag == 3 then integer_at input
    else if tag == 4 then float_at input
    else if tag == 5 then long_at input
    else if tag == 6 then double_at input
    else if tag == 7 then one_at const.Class input
    else if tag == 8 then one_at const.Text input
    else if tag == 9 then two_at const.Field input
    else if tag == 10 then two_at const.Method input
    else if tag == 11 then two_at const.IMethod input
    else if tag == 12 then two_at const.Pair input
    else if tag == 15 then handle_at input
    else if tag == 16 then one_at const.MethodKind input
    else if tag == 18 then two_at const.Dynamic input
    else Err (fault.BadTag place tag)

unfoldable pub entry_at : ItemReader Const
entry_at input = do
  tag ← u1_at input
  tagged_at input.at tag.0 tag.1

-- There is a place for what stands behind an entry, or nothing has to.
abbrev pub has_room : Bool → Const → Bool
has_room last entry = not (last && is_wide entry)

-- A place of the pool, which may be the last one and may stand behind an entry that takes two. That
-- one's second place has no bytes; where none is left for it, the fault is at the entry.
unfoldable pub place_at : Bool → Bool → ItemReader Const
place_at last true input = Ok (const.Second, input)
place_at last false input =
    entry_at input >>= λ entry.
    if has_room last entry.0 then Ok entry else Err (fault.BadIndex input.at)

-- So many places.
unfoldable pub places_at : ℕ → Bool → ItemReader (List Const)
places_at zero second input = Ok ([], input)
places_at (suc count) second input = do
  first ← place_at (count == 0) second input
  others ← places_at count (is_wide first.0) first.1
  Ok (first.0 ∷ others.0, others.1)
