-- Stated frames by the numbers of names.
use Rattle.std.specs.Prelude.{◌≡◌, ◌++◌, List, map}
use Rattle.program_rules.specs.Types as rules
use Rattle.class_link.specs.declared.frames.FrameShape.{FrameShape}
use Rattle.class_link.specs.declared.frames.StatedFrame.{StatedFrame}
use Rattle.class_link.specs.View.{shape_of, frame_of}
use Rattle.vframes.specs.declared.named.Named.{Named}
use Rattle.vframes.specs.View.{type_of, types_in}
use Rattle.type_verifier.specs.declared.shapes.Shape.{Shape}
use Rattle.type_verifier.specs.declared.shapes.Shape.TheVariants as shape
use Rattle.type_verifier.specs.declared.shapes.Difference.{Difference}

-- A shape by the names of a class.
abbrev pub shape_in : List Named → Shape → rules.FrameShape
shape_in ns shape.SameLocals = rules.SameLocals
shape_in ns (shape.OneItem t) = rules.OneItem (type_of ns t)
shape_in ns (shape.Chopped n) = rules.Chopped n
shape_in ns (shape.Appended ts) = rules.Appended (types_in ns ts.items)
shape_in ns (shape.Whole locals stack) = rules.Whole (types_in ns locals.items) (types_in ns stack.items)

-- A frame by its difference.
abbrev pub frame_in : List Named → Difference → rules.StatedFrame
frame_in ns d = record { at = d.at; shape = shape_in ns d.shape }

-- However many names are added, a shape and frames are these.
abbrev pub ShapeLasts : List Named → Shape → FrameShape → Type 0
ShapeLasts ns s f = (more : List Named) → shape_in (ns ++ more) s ≡ shape_of f

abbrev pub DifferencesLast : List Named → List Difference → List rules.StatedFrame → Type 0
DifferencesLast ns ds fs = (more : List Named) → map (frame_in (ns ++ more)) ds ≡ fs

abbrev pub FramesLast : List Named → List Difference → List StatedFrame → Type 0
FramesLast ns ds fs = DifferencesLast ns ds (map frame_of fs)
