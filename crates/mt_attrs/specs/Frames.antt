-- StackMapTable (JVMS 4.7.4). A frame whose place, or whose `new` places, are no instructions is
-- told at its first byte; its place is tested before its verification types.
use Rattle.std.specs.Prelude.{ℕ, ◌+◌, ◌-◌, ◌≤◌, ◌<◌, ◌^◌, nat_lt, true, false, ◌||◌, ◌==◌, List, [], ◌++◌, length, Ok, Err, if◌then◌else◌}
use Rattle.std.specs.Int.{w8, w16}
use Rattle.std.specs.List.{flat_map, AllByRecursion}
use Rattle.class_model.specs.declared.constant.Const.{Const}
use Rattle.class_model.specs.declared.frame.Frame.{Frame}
use Rattle.class_model.specs.declared.frame.Shape.{Shape}
use Rattle.class_model.specs.declared.frame.Shape.TheVariants as shape
use Rattle.class_model.specs.declared.frame.VItem.{VItem}
use Rattle.class_model.specs.declared.frame.VItem.TheVariants as vitem
use Rattle.class_model.specs.declared.fault.ClassFault.TheVariants as fault
use Rattle.codec_rules.specs.Sequence.{◌>>=◌}
use Rattle.codec_rules.specs.Reading.{many_at}
use Rattle.mt_insn.specs.Named.{names, is_class}
use Rattle.mt_insn.specs.Targets.{number_of}
use Rattle.mt_attrs.specs.Item.{PartReader, number, found_or, counted_at, many_by, spelled_by, AllBy, counted, u1, u2}
use Rattle.mt_attrs.specs.Named.{index_at, IsIndex}
use Rattle.mt_attrs.specs.Places.{place_at, delta_at, start_of, IsPlace, IsBehind}
use Rattle.mt_attrs.specs.declared.fault.ItemFault.TheVariants as item_fault

-- ---- verification types

-- what stands behind a tag at a place, in a frame that begins at `first`
abbrev pub tagged_at : List Const → List ℕ → ℕ → ℕ → ℕ → PartReader VItem
tagged_at pool starts first at tag input =
    if tag == 0 then Ok (vitem.Top, input)
    else if tag == 1 then Ok (vitem.Integer, input)
    else if tag == 2 || tag == 3 then Err (item_fault.Bad (fault.FloatUsed at))
    else if tag == 4 then Ok (vitem.Long, input)
    else if tag == 5 then Ok (vitem.Null, input)
    else if tag == 6 then Ok (vitem.UninitializedThis, input)
    else if tag == 7
    then (index_at is_class pool input >>= λ index. Ok (vitem.Object index.0, index.1))
    else if tag == 8 then (place_at first starts input >>= λ n. Ok (vitem.Uninitialized n.0, n.1))
    else Err (item_fault.Bad (fault.BadTag at tag))

unfoldable pub vitem_at : List Const → List ℕ → ℕ → PartReader VItem
vitem_at pool starts first input = do
  tag ← number w8 input
  tagged_at pool starts first input.at tag.0 tag.1

-- ---- frames. `next` is 0 for the first frame, and else one behind the place of the frame before
-- it.

abbrev pub frame_of : ℕ → Shape → Frame
frame_of n s = record { at = n; shape = s }

-- all locals and the whole stack
unfoldable pub full_at : List Const → List ℕ → ℕ → PartReader Shape
full_at pool starts first input = do
  locals ← counted_at (vitem_at pool starts first) input
  stack ← counted_at (vitem_at pool starts first) locals.1
  Ok (shape.Full locals.0 stack.0, stack.1)

-- what stands behind the place of a frame of the types 247 to 255
abbrev pub shape_at : List Const → List ℕ → ℕ → ℕ → PartReader Shape
shape_at pool starts first kind input =
    if kind == 247
    then (vitem_at pool starts first input >>= λ item. Ok (shape.One true item.0, item.1))
    else if nat_lt kind 251 then Ok (shape.Chop (251 - kind), input)
    else if kind == 251 then Ok (shape.Same true, input)
    else if nat_lt kind 255
    then (many_at (vitem_at pool starts first) (kind - 251) input >>= λ items.
    Ok (shape.Append items.0, items.1))
    else full_at pool starts first input

unfoldable pub far_at : List Const → List ℕ → ℕ → ℕ → ℕ → PartReader Frame
far_at pool starts next first kind input = do
  n ← delta_at first starts next input
  s ← shape_at pool starts first kind n.1
  Ok (frame_of n.0 s.0, s.1)

-- what stands behind the type of a frame that begins at `first`
unfoldable pub same_at : List ℕ → ℕ → ℕ → ℕ → PartReader Frame
same_at starts next first delta input = do
  n ← found_or (fault.BadTarget first) (number_of starts (next + delta))
  Ok (frame_of n (shape.Same false), input)

unfoldable pub one_at : List Const → List ℕ → ℕ → ℕ → ℕ → PartReader Frame
one_at pool starts next first delta input = do
  n ← found_or (fault.BadTarget first) (number_of starts (next + delta))
  item ← vitem_at pool starts first input
  Ok (frame_of n (shape.One false item.0), item.1)

abbrev pub kind_at : List Const → List ℕ → ℕ → ℕ → ℕ → PartReader Frame
kind_at pool starts next first kind input =
    if nat_lt kind 64 then same_at starts next first kind input
    else if nat_lt kind 128 then one_at pool starts next first (kind - 64) input
    else if nat_lt kind 247 then Err (item_fault.Bad (fault.BadTag first kind))
    else far_at pool starts next first kind input

unfoldable pub frame_at : List Const → List ℕ → ℕ → PartReader Frame
frame_at pool starts next input = do
  kind ← number w8 input
  kind_at pool starts next input.at kind.0 kind.1

abbrev pub next_behind : List ℕ → ℕ → Frame → ℕ
next_behind starts next frame = start_of starts frame.at + 1

abbrev pub frames_at : List Const → List ℕ → PartReader (List Frame)
frames_at pool starts input =
    number w16 input >>= λ count.
    many_by (frame_at pool starts) (next_behind starts) 0 count.0 count.1

-- ---- bytes

abbrev pub vitem_tag : VItem → ℕ
vitem_tag vitem.Top = 0
vitem_tag vitem.Integer = 1
vitem_tag vitem.Long = 4
vitem_tag vitem.Null = 5
vitem_tag vitem.UninitializedThis = 6
vitem_tag (vitem.Object index) = 7
vitem_tag (vitem.Uninitialized n) = 8

abbrev pub tagged_bytes : List ℕ → VItem → List ℕ
tagged_bytes starts (vitem.Object index) = u2 index
tagged_bytes starts (vitem.Uninitialized n) = u2 (start_of starts n)
tagged_bytes starts other = []

abbrev pub vitem_bytes : List ℕ → VItem → List ℕ
vitem_bytes starts item = u1 (vitem_tag item) ++ tagged_bytes starts item

-- the type of a frame that is so far behind
abbrev pub kind_of : ℕ → Shape → ℕ
kind_of delta (shape.Same false) = delta
kind_of delta (shape.Same true) = 251
kind_of delta (shape.One false item) = 64 + delta
kind_of delta (shape.One true item) = 247
kind_of delta (shape.Chop count) = 251 - count
kind_of delta (shape.Append items) = 251 + length items
kind_of delta (shape.Full locals stack) = 255

-- what stands behind the type and the place
abbrev pub shape_bytes : List ℕ → Shape → List ℕ
shape_bytes starts (shape.Same far) = []
shape_bytes starts (shape.One far item) = vitem_bytes starts item
shape_bytes starts (shape.Chop count) = []
shape_bytes starts (shape.Append items) = flat_map (vitem_bytes starts) items
shape_bytes starts (shape.Full locals stack) =
    counted (vitem_bytes starts) locals ++ counted (vitem_bytes starts) stack

-- the place, where the type doesn't tell it
abbrev pub delta_bytes : ℕ → Shape → List ℕ
delta_bytes delta (shape.Same false) = []
delta_bytes delta (shape.One false item) = []
delta_bytes delta other = u2 delta

abbrev pub delta_of : List ℕ → ℕ → Frame → ℕ
delta_of starts next frame = start_of starts frame.at - next

abbrev pub frame_bytes : List ℕ → ℕ → Frame → List ℕ
frame_bytes starts next frame =
    u1 (kind_of (delta_of starts next frame) frame.shape) ++
    (delta_bytes (delta_of starts next frame) frame.shape ++ shape_bytes starts frame.shape)

abbrev pub frames_bytes : List ℕ → List Frame → List ℕ
frames_bytes starts frames =
    u2 (length frames) ++ spelled_by (frame_bytes starts) (next_behind starts) 0 frames

-- ---- which frames have bytes

abbrev pub IsVItem : List Const → List ℕ → VItem → Type 0
IsVItem pool starts (vitem.Object index) = IsIndex (names is_class pool) index
IsVItem pool starts (vitem.Uninitialized n) = IsPlace starts n
IsVItem pool starts other = Unit {0}

-- how far behind a frame can be
abbrev pub room_of : Shape → ℕ
room_of (shape.Same false) = 64
room_of (shape.One false item) = 64
room_of other = 2 ^ 16

abbrev pub IsShape : List Const → List ℕ → Shape → Type 0
IsShape pool starts (shape.Same far) = Unit {0}
IsShape pool starts (shape.One far item) = IsVItem pool starts item
IsShape pool starts (shape.Chop count) = (0 < count) × (count ≤ 3)
IsShape pool starts (shape.Append items) =
    (0 < length items) × (length items ≤ 3) × AllByRecursion (IsVItem pool starts) items
IsShape pool starts (shape.Full locals stack) =
    ((length locals < 2 ^ 16) × AllByRecursion (IsVItem pool starts) locals)
    × ((length stack < 2 ^ 16) × AllByRecursion (IsVItem pool starts) stack)

abbrev pub IsFrame : List Const → List ℕ → ℕ → Frame → Type 0
IsFrame pool starts next frame =
    IsBehind starts next (room_of frame.shape) frame.at × IsShape pool starts frame.shape

abbrev pub AreFrames : List Const → List ℕ → List Frame → Type 0
AreFrames pool starts frames =
    (length frames < 2 ^ 16) × AllBy (IsFrame pool starts) (next_behind starts) 0 frames
