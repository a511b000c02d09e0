-- The instructions that call a method on an object, by their kind.
use Rattle.std.specs.Prelude.{ℕ, ◌<◌, ◌||◌, Bool, List, length, ⊤}
use Rattle.program_rules.specs.Instructions.{MethodRef}
use Rattle.program_rules.specs.Linked.{is_private, is_static}
use Rattle.program_rules.specs.Resolution.{MethodAt}
use Rattle.class_link.specs.Info.{Info}
use Rattle.jvm_frames.specs.Frames.{NumberedFrames}
use Rattle.jvm_rows.specs.Effects.{RowOf}
use Rattle.jvm_receivers.specs.declared.invoking.Invocation.{Invocation}
use Rattle.jvm_receivers.specs.declared.invoking.Invocation.TheVariants as how
use Rattle.jvm_receivers.specs.Receivers.{RunsIn, special_row, special_found, special_on, virtual_row, virtual_found, virtual_of, selecting_on, interface_row, interface_found, interface_on}
use Rattle.jvm_receivers.specs.Targets.{Receives}

-- The row of an instruction: whole, once its method was found, and once its object was.
abbrev pub invoked_row : List Info → Invocation → MethodRef → RowOf
invoked_row p how.Special r = special_row p r
invoked_row p how.Virtual r = virtual_row p r
invoked_row p how.Interface r = interface_row p r

abbrev pub found_row : List Info → Invocation → MethodRef → MethodAt → RowOf
found_row p how.Special r m = special_found p r m
found_row p how.Virtual r m = virtual_found p r m
found_row p how.Interface r m = interface_found p r m

abbrev pub on_row : List Info → Invocation → MethodRef → MethodAt → Receives
on_row p how.Special r m = special_on p r m
on_row p how.Virtual r m = selecting_on p (virtual_of r m)
on_row p how.Interface r m = interface_on p r

-- Whether it throws where it finds a method with these flags.
abbrev pub is_barred : Invocation → ℕ → Bool
is_barred how.Special flags = is_static flags
is_barred how.Virtual flags = is_static flags
is_barred how.Interface flags = is_static flags || is_private flags

-- What is asked of the class whose constant pool it is: `invokespecial` stands in a method of it.
abbrev pub StandsFor : List Info → Invocation → ℕ → NumberedFrames → Type 0
StandsFor p how.Special class s = (class < length p) × RunsIn class s
StandsFor p how.Virtual class s = ⊤
StandsFor p how.Interface class s = ⊤
