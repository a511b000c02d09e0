-- The rows of the instructions that call on an object, and what is left of them (JVMS 6.5).
use Rattle.std.specs.Prelude.{◌≡◌, ℕ, Bool, ◌||◌, if◌then◌else◌, List, ◌∷◌, drop, IfSome}
use Rattle.program_rules.specs.Faults.{Answer, Fails}
use Rattle.program_rules.specs.declared.fault.Fault.TheVariants.{IncompatibleClassChangeError}
use Rattle.program_rules.specs.Instructions.{MethodRef}
use Rattle.program_rules.specs.Names.{Name, same, is_listed}
use Rattle.program_rules.specs.Outlines.{interfaces_in}
use Rattle.program_rules.specs.Resolution.{MethodAt, is_initializer_name}
use Rattle.program_rules.specs.Selection.{select_named, select_virtual}
use Rattle.machine_rules.specs.Calls.{calls_method, calls_above, special_at, special_from, virtual_at, interface_at, invokes_special, invokes_virtual, invokes_interface}
use Rattle.machine_rules.specs.Effects.{on_found, throws}
use Rattle.machine_rules.specs.Lookups.{Known, is_instance, looks_up, methods_of, on_known}
use Rattle.class_link.specs.Info.{Info}
use Rattle.class_table.specs.Table.{look, name_at}
use Rattle.jvm_frames.specs.Frames.{NumberedFrames, args_on}
use Rattle.jvm_rows.specs.Effects.{RowOf}
use Rattle.jvm_link.specs.Sites.{outline_at}
use Rattle.jvm_receivers.specs.Targets.{Receives}

-- ---- what was selected

-- A method that was selected is called with the uppermost values of the stack, so many. Where none
-- was, the fault is thrown over the stack as it was.
abbrev pub selecting : List Info → ℕ → Answer MethodAt → RowOf
selecting p count a = λ q room w f fs.
    on_found q w (f ∷ fs) a
    (calls_method (look p) q w f fs room (args_on count f.stack) (drop count f.stack))

-- One of two rows.
abbrev pub choosing : Bool → RowOf → RowOf → RowOf
choosing b row other = λ q room w f fs. if b then row q room w f fs else other q room w f fs

-- ---- invokespecial

abbrev pub special_row : List Info → MethodRef → RowOf
special_row p r = λ q room w f fs. invokes_special (look p) q w f fs room r

abbrev pub special_found : List Info → MethodRef → MethodAt → RowOf
special_found p r m = λ q room w f fs. special_at (look p) q f fs room r w m

-- Once its object was found.
abbrev pub special_on : List Info → MethodRef → MethodAt → Receives
special_on p r m = λ x args rest q room w f fs.
    if is_initializer_name r.name then calls_method (look p) q w f fs room args rest m
    else looks_up (look p) f.class w (special_from (look p) q f fs room r m args rest)

-- The same of another method than `<init>`, with so many arguments; and in the world in which the
-- class of the frame was consulted.
abbrev pub special_looking : List Info → MethodRef → MethodAt → ℕ → RowOf
special_looking p r m count = λ q room w f fs.
    looks_up (look p) f.class w
    (special_from (look p) q f fs room r m (args_on count f.stack) (drop count f.stack))

-- Whether a name is that of a class or of one of its direct superinterfaces.
abbrev pub is_own : List Info → ℕ → Name → Bool
is_own p a n = same n (name_at p a) || is_listed n (interfaces_in (outline_at p a))

-- A method is selected from the direct superclass on.
abbrev pub special_above : List Info → MethodRef → ℕ → List Name → RowOf
special_above p r count up = λ q room w f fs.
    calls_above (look p) q f fs room r (args_on count f.stack) (drop count f.stack) w up

-- The same by whether the class or its superinterface is named, and by what stands above the class.
abbrev pub special_in : List Info → MethodRef → MethodAt → ℕ → List Name → Bool → RowOf
special_in p r m count up own = λ q room w f fs.
    if own
    then calls_method (look p) q w f fs room (args_on count f.stack) (drop count f.stack) m
    else special_above p r count up q room w f fs

-- ---- what an object selects

-- Once the object was found, the method that a search gives for it is called.
abbrev pub selecting_on : List Info → (Known → Answer MethodAt) → Receives
selecting_on p search = λ x args rest q room w f fs.
    on_known (look p) w x (λ o.
    on_found q w (f ∷ fs) (search o) (calls_method (look p) q w f fs room args rest))

-- ---- invokevirtual

abbrev pub virtual_row : List Info → MethodRef → RowOf
virtual_row p r = λ q room w f fs. invokes_virtual (look p) q w f fs room r

abbrev pub virtual_found : List Info → MethodRef → MethodAt → RowOf
virtual_found p r m = λ q room w f fs. virtual_at (look p) q f fs room r w m

-- What an object selects of the resolved method.
abbrev pub virtual_of : MethodRef → MethodAt → Known → Answer MethodAt
virtual_of r m o = select_virtual r m (methods_of o)

-- ---- invokeinterface

abbrev pub interface_row : List Info → MethodRef → RowOf
interface_row p r = λ q room w f fs. invokes_interface (look p) q w f fs room r

abbrev pub interface_found : List Info → MethodRef → MethodAt → RowOf
interface_found p r m = λ q room w f fs. interface_at (look p) q f fs room r w m

-- Once its object was found.
abbrev pub interface_on : List Info → MethodRef → Receives
interface_on p r = λ x args rest q room w f fs.
    on_known (look p) w x (λ o.
    if is_instance o r.class
    then on_found q w (f ∷ fs) (select_named r (methods_of o))
    (calls_method (look p) q w f fs room args rest)
    else throws q w (f ∷ fs) IncompatibleClassChangeError)

-- What an object selects by name and descriptor, if it is of the interface.
abbrev pub interface_of : MethodRef → Known → Answer MethodAt
interface_of r o =
    if is_instance o r.class then select_named r (methods_of o)
    else Fails IncompatibleClassChangeError

-- ---- what is asked

-- The frame that runs is of this class.
abbrev pub RunsIn : ℕ → NumberedFrames → Type 0
RunsIn a s = IfSome s.frame (λ f. f.class ≡ a)
