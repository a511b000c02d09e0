-- The frames of a written method, and the entries that they need (JVMS 4.7.4).
use Rattle.std.specs.Prelude.{ℕ, ◌+◌, false, List, [], ◌∷◌, ◌++◌, length, codes}
use Rattle.class_model.specs.declared.constant.Const.{Const}
use Rattle.class_model.specs.declared.constant.Const.TheVariants as const
use Rattle.class_model.specs.declared.attribute.Attr.{Attr, roll-Attr}
use Rattle.class_model.specs.declared.attribute.Body.TheVariants as body
use Rattle.class_model.specs.declared.frame.Frame.{Frame}
use Rattle.class_model.specs.declared.frame.Shape.{Shape}
use Rattle.class_model.specs.declared.frame.Shape.TheVariants as shape
use Rattle.class_model.specs.declared.frame.VItem.{VItem}
use Rattle.class_model.specs.declared.frame.VItem.TheVariants as item
use Rattle.program_rules.specs.Names.{Name}

-- A local that a frame has beyond those of the frame before it.
pub data Local : Type 0 where
  AnInt : Local
  AnObject : Name → Local

-- A frame without a stack: the instruction that it stands for, and its further locals.
pub record FrameAt : Type 0 where
  pub at : ℕ
  pub more : List Local

abbrev pub same_at : ℕ → FrameAt
same_at at = record { at = at; more = [] }

abbrev pub more_at : ℕ → List Local → FrameAt
more_at at more = record { at = at; more = more }

-- ---- the entries that they need

-- The pool with the name of the attribute (JVMS 4.7.4).
abbrev pub with_name : List Const → List Const
with_name pool = pool ++ const.Utf8 (codes "StackMapTable") ∷ []

-- The entries of a local, behind so many.
abbrev pub local_entries : ℕ → Local → List Const
local_entries n AnInt = []
local_entries n (AnObject c) = const.Utf8 c ∷ const.Class (n + 1) ∷ []

abbrev pub pool_of_locals : List Const → List Local → List Const
pool_of_locals pool [] = pool
pool_of_locals pool (l ∷ ls) = pool_of_locals (pool ++ local_entries (length pool) l) ls

abbrev pub pool_of_frames : List Const → List FrameAt → List Const
pool_of_frames pool [] = pool
pool_of_frames pool (f ∷ fs) = pool_of_frames (pool_of_locals pool f.more) fs

-- ---- the frames

-- A local, whose entries stand behind so many.
abbrev pub item_of : ℕ → Local → VItem
item_of n AnInt = item.Integer
item_of n (AnObject c) = item.Object (n + 2)

abbrev pub items_from : List Const → List Local → List VItem
items_from pool [] = []
items_from pool (l ∷ ls) =
    item_of (length pool) l ∷ items_from (pool ++ local_entries (length pool) l) ls

abbrev pub shape_of : List VItem → Shape
shape_of [] = shape.Same false
shape_of (t ∷ ts) = shape.Append (t ∷ ts)

abbrev pub frames_from : List Const → List FrameAt → List Frame
frames_from pool [] = []
frames_from pool (f ∷ fs) =
    record { at = f.at; shape = shape_of (items_from pool f.more) }
    ∷ frames_from (pool_of_locals pool f.more) fs

-- The attribute, by the index of its name.
abbrev pub frame_table : ℕ → List Frame → List Attr
frame_table name frames = roll-Attr (record { name = name; body = body.Frames frames }) ∷ []
