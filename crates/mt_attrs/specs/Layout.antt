-- Writing attributes: what has no room, and what is written (JVMS 4.7). A list has at most 65,535
-- items, a code 65,535 bytes, and an attribute's content fewer than 2^32 bytes.
use Rattle.std.specs.Prelude.{◌≡◌, ◌≢◌, ℕ, ◌≤◌, ◌<◌, ◌^◌, nat_lt, List, [], ◌∷◌, ◌++◌, length, All, Option, Some, None, Result, Ok, Err, if◌then◌else◌}
use Rattle.std.specs.Option.{option_map}
use Rattle.class_model.specs.declared.attribute.Row.{Row}
use Rattle.class_model.specs.declared.attribute.Attr.{Attr}
use Rattle.class_model.specs.declared.attribute.Code.{Code, out-Code}
use Rattle.class_model.specs.declared.attribute.Body.{Body}
use Rattle.class_model.specs.declared.attribute.Body.TheOpen.{Body-F, Code-F}
use Rattle.class_model.specs.declared.frame.Frame.{Frame}
use Rattle.class_model.specs.declared.frame.Shape.{Shape}
use Rattle.class_model.specs.declared.frame.Shape.TheVariants as shape
use Rattle.class_model.specs.declared.frame.VItem.{VItem}
use Rattle.class_model.specs.declared.frame.VItem.TheVariants as vitem
use Rattle.class_model.specs.declared.instruction.Insn.{Insn}
use Rattle.class_model.specs.declared.fault.Bound.{Bound}
use Rattle.class_model.specs.declared.fault.Bound.TheVariants as bound
use Rattle.class_model.specs.declared.fault.LayoutFault.{LayoutFault}
use Rattle.class_model.specs.declared.fault.LayoutFault.TheVariants as layout_fault
use Rattle.codec_rules.specs.Sequence.{unless}
use Rattle.mt_insn.specs.Code.{HasForm, HasTargets, places, layout}
use Rattle.mt_attrs.specs.Item.{AllBy}
use Rattle.mt_attrs.specs.Places.{IsBehind}
use Rattle.mt_attrs.specs.Frames.{next_behind, room_of}
use Rattle.mt_attrs.specs.CodeParts.{body_of, table_content}
use Rattle.class_model.specs.declared.constant.Const.{Const}
use Rattle.mt_attrs.specs.declared.owner.Owner.{Owner}
use Rattle.mt_attrs.specs.Attributes.{body_content, attrs_bytes, AreAttrs}

-- ---- which bound is passed first, in the order of the file

abbrev pub or_bound : Option Bound → Option Bound → Option Bound
or_bound (Some b) other = Some b
or_bound None other = other

abbrev pub count_bound : ℕ → Option Bound
count_bound count = if nat_lt count (2 ^ 16) then None else Some bound.List

abbrev pub first_of : {A : Type 0} → (A → Option Bound) → List A → Option Bound
first_of passed [] = None
first_of passed (value ∷ values) = or_bound (passed value) (first_of passed values)

-- of a list
abbrev pub list_bound : {A : Type 0} → (A → Option Bound) → List A → Option Bound
list_bound passed values = or_bound (count_bound (length values)) (first_of passed values)

abbrev pub size_bound : List ℕ → Option Bound
size_bound bytes = if nat_lt (length bytes) (2 ^ 32) then None else Some bound.Attribute

-- of the content of an attribute, and then of its length
abbrev pub content_bound : Option Bound → List ℕ → Option Bound
content_bound passed bytes = or_bound passed (size_bound bytes)

abbrev pub shape_bound : Shape → Option Bound
shape_bound (shape.Full locals stack) =
    or_bound (count_bound (length locals)) (count_bound (length stack))
shape_bound other = None

abbrev pub frame_bound : Frame → Option Bound
frame_bound frame = shape_bound frame.shape

abbrev pub bound_in : Result (List ℕ) LayoutFault → Option Bound
bound_in (Ok bytes) = None
bound_in (Err (layout_fault.TooLarge what)) = Some what
bound_in (Err layout_fault.Memory) = None

abbrev pub insns_bound : List Insn → Option Bound
insns_bound insns = bound_in (layout insns)

abbrev pub table_bound : Body-F Body Attr Code → Option Bound
table_bound (Body-F.Lines lines) = count_bound (length lines)
table_bound (Body-F.Frames frames) = list_bound frame_bound frames
table_bound other = None

-- of an attribute inside Code
abbrev pub inner_bound : List ℕ → Attr → Option Bound
inner_bound starts attr =
    content_bound (table_bound (body_of attr)) (table_content starts (body_of attr))

abbrev pub parts_bound : Code-F Body Attr Code → Option Bound
parts_bound c =
    or_bound (insns_bound c.insns)
    (or_bound (count_bound (length c.rows)) (list_bound (inner_bound (places c.insns)) c.attrs))

abbrev pub body_bound : Body-F Body Attr Code → Option Bound
body_bound (Body-F.Code c) = parts_bound (out-Code c)
body_bound (Body-F.Notes notes) = count_bound (length notes)
body_bound other = None

abbrev pub attr_bound : Attr → Option Bound
attr_bound attr = content_bound (body_bound (body_of attr)) (body_content (body_of attr))

-- of the attributes of an owner
abbrev pub attrs_bound : List Attr → Option Bound
attrs_bound attrs = list_bound attr_bound attrs

-- The bytes of attributes that have room, or the bound that is passed first.
abbrev pub attrs_layout : List Attr → Result (List ℕ) LayoutFault
attrs_layout attrs =
    unless (option_map layout_fault.TooLarge (attrs_bound attrs)) (attrs_bytes attrs)

-- ---- what a call writes

-- The call adds these bytes, where no bound is passed, or tells the one that is, or runs out of
-- memory.
abbrev pub Writes : Option Bound → List ℕ → List ℕ → List ℕ → Result Unit LayoutFault → Type 0
Writes passed bytes old new (Ok value) = (passed ≡ None) × (new ≡ old ++ bytes)
Writes passed bytes old new (Err e) =
    e ≢ layout_fault.Memory → option_map layout_fault.TooLarge passed ≡ Some e

-- ---- the form of what may be written: that of what is read, but for sizes. What an index names in
-- a pool is not asked.

abbrev pub HasLineForm : List ℕ → ℕ × ℕ → Type 0
HasLineForm starts line = line.0 < length starts

pub record HasRowForm (starts : List ℕ) (row : Row) : Type 0 where
  pub start : row.start < length starts
  pub last : row.end ≤ length starts
  pub handler : row.handler < length starts

abbrev pub HasVItemForm : List ℕ → VItem → Type 0
HasVItemForm starts (vitem.Uninitialized n) = n < length starts
HasVItemForm starts other = Unit {0}

abbrev pub HasShapeForm : List ℕ → Shape → Type 0
HasShapeForm starts (shape.Same far) = Unit {0}
HasShapeForm starts (shape.One far item) = HasVItemForm starts item
HasShapeForm starts (shape.Chop count) = (0 < count) × (count ≤ 3)
HasShapeForm starts (shape.Append items) =
    (0 < length items) × (length items ≤ 3) × All (HasVItemForm starts) items
HasShapeForm starts (shape.Full locals stack) =
    All (HasVItemForm starts) locals × All (HasVItemForm starts) stack

-- the part of it that the type of a frame asks for
abbrev pub HasSize : Shape → Type 0
HasSize (shape.Chop count) = (0 < count) × (count ≤ 3)
HasSize (shape.Append items) = (0 < length items) × (length items ≤ 3)
HasSize other = Unit {0}

abbrev pub HasFrameForm : List ℕ → ℕ → Frame → Type 0
HasFrameForm starts next frame =
    IsBehind starts next (room_of frame.shape) frame.at × HasShapeForm starts frame.shape

abbrev pub HasTableForm : List ℕ → Body-F Body Attr Code → Type 0
HasTableForm starts (Body-F.Lines lines) = All (HasLineForm starts) lines
HasTableForm starts (Body-F.Frames frames) =
    AllBy (HasFrameForm starts) (next_behind starts) 0 frames
HasTableForm starts (Body-F.Raw bytes) = Unit {0}
HasTableForm starts other = ⊥

pub record HasCodeForm (c : Code-F Body Attr Code) : Type 0 where
  pub forms : All HasForm c.insns
  pub targets : All (HasTargets (length c.insns)) c.insns
  pub rows : All (HasRowForm (places c.insns)) c.rows
  pub attrs : All (λ attr. HasTableForm (places c.insns) (body_of attr)) c.attrs

abbrev pub HasBodyForm : Body-F Body Attr Code → Type 0
HasBodyForm (Body-F.Code c) = HasCodeForm (out-Code c)
HasBodyForm (Body-F.Notes notes) = Unit {0}
HasBodyForm (Body-F.Source index) = Unit {0}
HasBodyForm (Body-F.Value index) = Unit {0}
HasBodyForm (Body-F.Raw bytes) = Unit {0}
HasBodyForm (Body-F.Lines lines) = ⊥
HasBodyForm (Body-F.Frames frames) = ⊥

abbrev pub HasAttrForm : Attr → Type 0
HasAttrForm attr = HasBodyForm (body_of attr)

-- ---- both ways

-- Attributes that have a spelling are in the form that writing asks for, and are written as they
-- are spelled.
abbrev pub SpelledIsWritten : Type 0
SpelledIsWritten =
    (pool : List Const) (owner : Owner) (attrs : List Attr) → AreAttrs pool owner attrs →
    All HasAttrForm attrs × (attrs_layout attrs ≡ Ok (attrs_bytes attrs))
