-- What a search for a handler comes to (JVMS 2.10).
use Rattle.std.specs.Prelude.{◌≡◌, ℕ, ◌<◌, Bool, true, false, List, ◌∷◌, length, map, ⊤}
use Rattle.std.specs.Prelude.{Option, Some, None}
use Rattle.program_rules.specs.Names.{Name, is_listed}
use Rattle.program_rules.specs.Linked.{LinkedRow}
use Rattle.program_rules.specs.Outlines.{outline_of, is_present}
use Rattle.program_rules.specs.Programs.{supers}
use Rattle.machine_rules.specs.State.{World}
use Rattle.machine_rules.specs.Throwing.{Caught, catch_by, chooses, find_handler}
use Rattle.class_model.specs.declared.class.ClassId.{ClassId}
use Rattle.class_link.specs.Info.{Info}
use Rattle.class_table.specs.Seen.{Seen}
use Rattle.class_table.specs.Table.{look, name_at}
use Rattle.jvm_unwind.specs.declared.row.Catch.{Catch}
use Rattle.jvm_unwind.specs.declared.row.CatchRow.{CatchRow}
use Rattle.jvm_unwind.specs.Rows.{catch_name, catch_row_of}

-- The class of what is thrown is one of the program, if the program has it.
abbrev pub IsThrown : List Info → Option ClassId → Type 0
IsThrown p None = ⊤
IsThrown p (Some id) = id.0 < length p

-- The names of a class and all above it: of a class of the program those of its walk; of one that
-- the program doesn't have no class that is there is above it.
abbrev pub AreAbove : List Info → Option ClassId → List Name → Type 0
AreAbove p None names =
    (n : Name) → is_present (outline_of (look p n)) ≡ true → is_listed n names ≡ false
AreAbove p (Some id) names = names ≡ supers (look p) (name_at p id.0)

-- Whether a class of the program is among those names.
abbrev pub IsListedAs : List Info → Option ClassId → ℕ → Bool → Type 0
IsListedAs p thrown class b =
    (names : List Name) → AreAbove p thrown names → b ≡ is_listed (name_at p class) names

-- A world in which just this was consulted.
abbrev pub having : World → Seen → World
having w seen = record w { consulted = seen.names }

-- A row's class was tested.
abbrev pub Tests : List Info → Option ClassId → Catch → Seen → Bool → Seen → Type 0
Tests p thrown c old b new =
    (names : List Name) → AreAbove p thrown names → (w : World) (to : ℕ) (rest : World → Caught) →
    catch_by (look p) names (catch_name p c) to (having w old) rest
    ≡ chooses b (having w new) to rest

-- A row was tested at an instruction, before all that stand behind it.
abbrev pub Takes : List Info → Option ClassId → CatchRow → ℕ → Seen → Bool → Seen → Type 0
Takes p thrown r at old b new =
    (names : List Name) → AreAbove p thrown names → (w : World) (rs : List LinkedRow) →
    find_handler (look p) names at (catch_row_of p r ∷ rs) (having w old)
    ≡ chooses b (having w new) r.handler (find_handler (look p) names at rs)

-- These rows were searched at an instruction.
abbrev pub Finds :
    List Info → Option ClassId → List CatchRow → ℕ → Seen → Option ℕ → Seen → Type 0
Finds p thrown rows at old to new =
    (names : List Name) → AreAbove p thrown names → (w : World) →
    find_handler (look p) names at (map (catch_row_of p) rows) (having w old)
    ≡ record { world = having w new; target = to }
