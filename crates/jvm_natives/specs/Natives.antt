-- What native methods are asked with: the names of the program's classes by number, and the numbers
-- of those of which they make objects.
use Rattle.std.specs.Prelude.{◌≡◌, ℕ, ◌<◌, List, [], ◌∷◌, length, Option, Some, None, IfSome}
use Rattle.program_rules.specs.declared.value.Value.{Value}
use Rattle.program_rules.specs.declared.making.Making.{Making}
use Rattle.program_rules.specs.declared.making.Making.TheVariants as making
use Rattle.program_rules.specs.Names.{Name}
use Rattle.program_rules.specs.Deeds.{Meaning, making_name}
use Rattle.machine_rules.specs.State as def
use Rattle.class_model.specs.declared.class.ClassId.{ClassId}
use Rattle.class_link.specs.Info.{Info}
use Rattle.class_table.specs.Table.{look, names, name_at}
use Rattle.jvm_frames.specs.Frames.{NumberedFrames, args_on}
use Rattle.jvm_world.specs.declared.world.World.{World}
use Rattle.jvm_world.specs.View.{Means}
use Rattle.lib_core.specs.declared.deed.Deed.{Deed}
use Rattle.lib_core.specs.Known.{IsKnown}
use Rattle.lib_core.specs.View.{deed_of}
use Rattle.jvm_natives.specs.declared.natives.Natives.{Natives}

-- The names of the classes of which native methods make objects.
abbrev pub made_names : List Name
made_names =
    making_name making.Text
    ∷ making_name making.List
    ∷ making_name making.Set
    ∷ making_name making.Iterator
    ∷ making_name making.Optional
    ∷ making_name making.Integer
    ∷ making_name making.Long
    ∷ making_name making.Short
    ∷ making_name making.Byte
    ∷ making_name making.Character
    ∷ making_name making.Boolean
    ∷ []

-- They are those of a program.
pub record AreNatives (p : List Info) (n : Natives) : Type 0 where
  pub listed : n.names ≡ names p
  pub known : IsKnown (names p) n.known

-- What a native method wants done with these arguments, in each world that is meant.
abbrev pub Wants : List Info → World → Meaning → List Value → Deed → Type 0
Wants p w m args d = (v : def.World) → Means p w v → m v.heap args ≡ deed_of d

-- The same with the uppermost values of the running frame's stack, so many.
abbrev pub WantsOn : List Info → World → Meaning → ℕ → NumberedFrames → Deed → Type 0
WantsOn p w m count s d = IfSome s.frame (λ f. Wants p w m (args_on count f.stack) d)

-- The class of which native methods make such objects has this number.
pub record IsMadeBy (p : List Info) (m : Making) (id : ℕ) : Type 0 where
  pub within : id < length p
  pub named : name_at p id ≡ making_name m

-- Its number; none exactly where the program lacks it.
abbrev pub FindsMade : List Info → Making → Option ClassId → Type 0
FindsMade p m None = look p (making_name m) ≡ None
FindsMade p m (Some id) = IsMadeBy p m id.0
