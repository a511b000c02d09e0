-- A row that names a class of the program, tested.
use Rattle.std.proofs.Common.{◌≡◌, ◌∙◌, sym, ap, ℕ, Bool, true, false, ◌&&◌, if◌then◌else◌, List, Option, Some}
use Rattle.program_rules.specs.Names.{Name, is_array_name, element_of, element_class, class_behind, is_listed}
use Rattle.program_rules.specs.Outlines.{outline_of, is_present}
use Rattle.program_rules.specs.Programs.{consulted_with}
use Rattle.machine_rules.specs.State.{World}
use Rattle.machine_rules.specs.Lookups.{consult}
use Rattle.machine_rules.specs.Throwing.{Caught, catch_by, chooses, matches, find_handler}
use Rattle.class_link.specs.Info.{Info}
use Rattle.class_table.specs.Seen.{Seen}
use Rattle.class_table.specs.Table.{look}
use Rattle.jvm_unwind.specs.Searches.{having, Tests, Takes}
use Rattle.jvm_unwind.specs.Rows.{catch_name, catch_row_of}
use Rattle.jvm_unwind.specs.declared.row.CatchRow.{CatchRow}
use Rattle.class_model.specs.declared.class.ClassId.{ClassId}
use Rattle.program_rules.specs.Linked.{covers}

abbrev with_names : World → List Name → World
with_names w ns = record w { consulted = ns }

pub tested : (p : List Info) (n : Name) (names : List Name) (old new : Seen) (b : Bool) →
    is_array_name n ≡ false → is_present (outline_of (look p n)) ≡ true → b ≡ is_listed n names →
    new.names ≡ consulted_with (look p) n old.names → (w : World) (to : ℕ) (rest : World → Caught) →
    catch_by (look p) names (Some n) to (having w old) rest ≡ chooses b (having w new) to rest
tested p n names old new b plain present listed seen w to rest =
    let e : class_behind n ≡ n = ap (λ a. if a then element_class (element_of n) else n) plain in
    ap (λ m. chooses (matches names n (outline_of (look p m))) (consult (look p) m (having w old)) to rest) e
    ∙ ap (λ a. chooses ((if a then false else is_present (outline_of (look p n))) && is_listed n names) (consult (look p) n (having w old)) to rest) plain
    ∙ ap (λ a. chooses (a && is_listed n names) (consult (look p) n (having w old)) to rest) present
    ∙ ap (λ a. chooses a (with_names w (consulted_with (look p) n old.names)) to rest) (sym listed)
    ∙ ap (λ ns. chooses b (with_names w ns) to rest) (sym seen)

-- A row that covers the instruction is tested, and one that doesn't isn't.
pub covered : (p : List Info) (thrown : Option ClassId) (r : CatchRow) (at : ℕ) (old new : Seen) (b : Bool) →
    covers at (catch_row_of p r) ≡ true → Tests p thrown r.catch old b new → Takes p thrown r at old b new
covered p thrown r at old new b e tests names above w rs =
    ap (λ a. if a then catch_by (look p) names (catch_name p r.catch) r.handler (having w old) (find_handler (look p) names at rs) else find_handler (look p) names at rs (having w old)) e
    ∙ tests names above w r.handler (find_handler (look p) names at rs)

pub passed_over : (p : List Info) (thrown : Option ClassId) (r : CatchRow) (at : ℕ) (old : Seen) →
    covers at (catch_row_of p r) ≡ false → Takes p thrown r at old false old
passed_over p thrown r at old e names above w rs =
    ap (λ a. if a then catch_by (look p) names (catch_name p r.catch) r.handler (having w old) (find_handler (look p) names at rs) else find_handler (look p) names at rs (having w old)) e
