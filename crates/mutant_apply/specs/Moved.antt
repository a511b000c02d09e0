-- Where the parts of a method's code stand when one of its instructions is replaced by several
-- (this project's own). Places are instruction numbers.
use Rattle.std.specs.Prelude.{ℕ, ◌+◌, ◌-◌, Bool, ◌||◌, nat_le, nat_lt, if◌then◌else◌, List, [], ◌∷◌, map}
use Rattle.std.specs.List.{flat_map}
use Rattle.class_model.specs.declared.attribute.Attr.{Attr}
use Rattle.class_model.specs.declared.attribute.Code.{Code}
use Rattle.class_model.specs.declared.attribute.Row.{Row}
use Rattle.class_model.specs.declared.attribute.Body.{Body}
use Rattle.class_model.specs.declared.attribute.Body.TheVariants as body
use Rattle.class_model.specs.declared.attribute.Body.TheOpen.{Body-F}
use Rattle.class_model.specs.declared.frame.Frame.{Frame}
use Rattle.class_model.specs.declared.frame.Shape.{Shape}
use Rattle.class_model.specs.declared.frame.Shape.TheVariants as shape
use Rattle.class_model.specs.declared.frame.VItem.{VItem}
use Rattle.class_model.specs.declared.frame.VItem.TheVariants as vitem
use Rattle.class_model.specs.declared.instruction.Arg.{Arg}
use Rattle.class_model.specs.declared.instruction.Arg.TheVariants as arg
use Rattle.class_model.specs.declared.instruction.Insn.{Insn}
use Rattle.mt_attrs.specs.CodeParts.{attr_of, name_of, body_of}
use Rattle.mt_attrs.specs.Frames.{next_behind, delta_of}

-- ---- the place map

-- A place up to that of the replaced instruction stays; a later one, and so the code's end, moves
-- by the number of instructions more.
abbrev pub moved_place : ℕ → ℕ → ℕ → ℕ
moved_place at more place = if nat_le place at then place else place + more

-- ---- instructions, the rows of the exception table and of LineNumberTable

-- Where a jump or a switch leads moves.
abbrev pub moved_arg : (ℕ → ℕ) → Arg → Arg
moved_arg mv (arg.To n) = arg.To (mv n)
moved_arg mv (arg.Table n (low, ns)) = arg.Table (mv n) (low, map mv ns)
moved_arg mv (arg.Lookup n pairs) = arg.Lookup (mv n) (map (λ pair. (pair.0, mv pair.1)) pairs)
moved_arg mv other = other

abbrev pub moved_insn : (ℕ → ℕ) → Insn → Insn
moved_insn mv insn = record insn { arg = moved_arg mv insn.arg }

abbrev pub moved_row : (ℕ → ℕ) → Row → Row
moved_row mv row = record row { start = mv row.start; end = mv row.end; handler = mv row.handler }

abbrev pub moved_line : (ℕ → ℕ) → ℕ × ℕ → ℕ × ℕ
moved_line mv line = (mv line.0, line.1)

-- ---- frames (JVMS 4.7.4)

-- The place of the `new` that made what isn't initialised moves.
abbrev pub moved_item : (ℕ → ℕ) → VItem → VItem
moved_item mv (vitem.Uninitialized n) = vitem.Uninitialized (mv n)
moved_item mv other = other

abbrev pub with_items_moved : (ℕ → ℕ) → Shape → Shape
with_items_moved mv (shape.Same far) = shape.Same far
with_items_moved mv (shape.One far item) = shape.One far (moved_item mv item)
with_items_moved mv (shape.Chop count) = shape.Chop count
with_items_moved mv (shape.Append items) = shape.Append (map (moved_item mv) items)
with_items_moved mv (shape.Full locals stack) =
    shape.Full (map (moved_item mv) locals) (map (moved_item mv) stack)

-- A frame of the short form whose offset from the frame before passes 63 takes the longer one;
-- other forms stay.
abbrev pub long_enough : ℕ → Shape → Shape
long_enough delta (shape.Same far) = shape.Same (far || nat_lt 63 delta)
long_enough delta (shape.One far item) = shape.One (far || nat_lt 63 delta) item
long_enough delta other = other

-- The frame at its new place, with its items moved.
abbrev pub placed_frame : (ℕ → ℕ) → Frame → Frame
placed_frame mv frame = record { at = mv frame.at; shape = with_items_moved mv frame.shape }

-- The same in a code whose instructions begin at `starts`. `next` is 0 for the first frame, and
-- else one behind the place of the frame before it.
abbrev pub moved_frame : (ℕ → ℕ) → List ℕ → ℕ → Frame → Frame
moved_frame mv starts next frame =
    record {
      at = mv frame.at;
      shape = long_enough (delta_of starts next (placed_frame mv frame))
          (with_items_moved mv frame.shape);
    }

abbrev pub moved_frames : (ℕ → ℕ) → List ℕ → ℕ → List Frame → List Frame
moved_frames mv starts next [] = []
moved_frames mv starts next (frame ∷ frames) =
    moved_frame mv starts next frame ∷
    moved_frames mv starts (next_behind starts next (placed_frame mv frame)) frames

-- ---- the attributes inside Code

-- LineNumberTable and StackMapTable stay and are moved. All others are dropped, since what they say
-- of places in the code isn't known.
abbrev pub moved_table : (ℕ → ℕ) → List ℕ → ℕ → Body-F Body Attr Code → List Attr
moved_table mv starts name (Body-F.Lines lines) =
    attr_of name (body.Lines (map (moved_line mv) lines)) ∷ []
moved_table mv starts name (Body-F.Frames frames) =
    attr_of name (body.Frames (moved_frames mv starts 0 frames)) ∷ []
moved_table mv starts name other = []

abbrev pub moved_tables : (ℕ → ℕ) → List ℕ → List Attr → List Attr
moved_tables mv starts attrs =
    flat_map (λ attr. moved_table mv starts (name_of attr) (body_of attr)) attrs
