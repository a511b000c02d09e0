-- The class of an object that is thrown.
use Rattle.std.specs.Prelude.{◌≡◌, ℕ, ◌<◌, List, length, Option, None, Some, IsSomeAnd}
use Rattle.class_model.specs.declared.class.ClassId.{ClassId}
use Rattle.program_rules.specs.Names.{Name}
use Rattle.program_rules.specs.Objects as objects
use Rattle.program_rules.specs.Programs.{supers}
use Rattle.machine_rules.specs.State as def
use Rattle.class_link.specs.Info.{Info}
use Rattle.class_table.specs.Table.{look, name_at}
use Rattle.jvm_world.specs.declared.world.World.{World}
use Rattle.jvm_world.specs.View.{Means}
use Rattle.jvm_unwind.specs.declared.thrown.Thrown.{Thrown}
use Rattle.jvm_unwind.specs.declared.thrown.Thrown.TheVariants as thrown

abbrev pub class_name : List Info → Thrown → Name
class_name p (thrown.Known id) = name_at p id.0
class_name p (thrown.Absent name) = name

-- The names of the class and of all above it.
abbrev pub names_of : List Info → Thrown → List Name
names_of p t = supers (look p) (class_name p t)

-- The program has a class of this number, and none of that name.
abbrev pub IsClass : List Info → Thrown → Type 0
IsClass p (thrown.Known id) = id.0 < length p
IsClass p (thrown.Absent name) = look p name ≡ None

abbrev pub id_of : Thrown → Option ClassId
id_of (thrown.Known id) = Some id
id_of (thrown.Absent name) = None

-- The class that is looked up for an object of a number, if there is one, in each world that is
-- meant.
abbrev pub IsClassIn : List Info → World → ℕ → Option Thrown → Type 0
IsClassIn p w x (Some t) =
    IsClass p t
    × ((v : def.World) → Means p w v →
    IsSomeAnd (objects.object_at v.heap x) (λ o. objects.class_of_object o.kind ≡ class_name p t))
IsClassIn p w x None = (v : def.World) → Means p w v → objects.object_at v.heap x ≡ None
