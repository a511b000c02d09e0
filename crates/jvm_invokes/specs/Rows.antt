-- The rows of the instructions that call a method (JVMS 6.5), and what is left of them once the
-- reference was resolved.
use Rattle.std.specs.Prelude.{◌≡◌, ℕ, List, ◌∷◌}
use Rattle.program_rules.specs.Instructions.{MethodRef}
use Rattle.program_rules.specs.Programs.{family}
use Rattle.program_rules.specs.Resolution.{MethodAt}
use Rattle.machine_rules.specs.State as def
use Rattle.machine_rules.specs.Initialisation.{Ready, need_of}
use Rattle.machine_rules.specs.Lookups.{resolves}
use Rattle.machine_rules.specs.Calls.{invokes, invokes_static, static_method_at}
use Rattle.class_link.specs.Info.{Info}
use Rattle.class_table.specs.Table.{look, name_at}
use Rattle.jvm_world.specs.declared.world.World.{World}
use Rattle.jvm_world.specs.View.{Means}
use Rattle.jvm_rows.specs.Effects.{RowOf}

-- A row that names a method, by what it does once that was found.
abbrev pub naming : List Info → MethodRef → (MethodAt → RowOf) → RowOf
naming p r found = λ q room w f fs.
    resolves (look p) q w (f ∷ fs) r.class (invokes q f fs r (λ u m. found m q room u f fs))

-- `invokestatic`.
abbrev pub static_row : List Info → MethodRef → RowOf
static_row p r = λ q room w f fs. invokes_static (look p) q w f fs room r

abbrev pub static_found : List Info → MethodRef → MethodAt → RowOf
static_found p r m = λ q room w f fs. static_method_at (look p) q w f fs room r m

-- Nothing stands before the use of a class, in each world that is meant.
abbrev pub IsReady : List Info → World → ℕ → Type 0
IsReady p w a =
    (v : def.World) → Means p w v → need_of v.inits (family (look p) (name_at p a)) ≡ Ready
