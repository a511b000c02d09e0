-- Lines of code that a run has reached.
use Rattle.std.specs.Prelude.{◌≡◌, ℕ, Bool, true, false, List, map}
use Rattle.program_rules.specs.Names.{Name}
use Rattle.program_rules.specs.Linked.{code_of, is_from_file, method_in}
use Rattle.machine_rules.specs.Steps.{is_reached, line_in, reaches}
use Rattle.class_link.specs.Info.{Info}
use Rattle.class_table.specs.Table.{look, name_at}
use Rattle.jvm_frames.specs.Frames.{NumberedFrame}
use Rattle.jvm_world.specs.declared.world.World.{World}
use Rattle.jvm_world.specs.View.{Moves, named}
use Rattle.jvm_unwind.specs.Turns.{frame_of}

-- The line of the instruction at which a frame stands is reached.
abbrev pub ReachesLine : List Info → NumberedFrame → World → World → Type 0
ReachesLine p f w u = Moves p w u (reaches (look p) (frame_of p f))

-- The classes and lines that a world has reached, by the names of classes.
abbrev pub lines_of : List Info → World → List (Name × ℕ)
lines_of p w = map (named p) w.reached

-- A line of a class is among these, where the class comes from a class file.
abbrev pub IsReachedIf : Bool → Name → ℕ → List (Name × ℕ) → Type 0
IsReachedIf true class line rs = is_reached class line rs ≡ true
IsReachedIf false class line rs = Unit {0}

-- So is the line of an instruction of a method.
abbrev pub IsLineReached : List Info → ℕ → ℕ → ℕ → List (Name × ℕ) → Type 0
IsLineReached p class method at rs =
    let name = name_at p class in
    IsReachedIf (is_from_file (look p name)) name
    (line_in (code_of (method_in (look p name) method)) at) rs
