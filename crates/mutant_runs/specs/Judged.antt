-- The class of an edit is judged by the edited method alone (this project's own).
use Rattle.std.specs.Prelude.{◌≡◌, ℕ, true, List, Some, slice_get, slice_set}
use Rattle.std.specs.Option.{option_map}
use Rattle.program_rules.specs.Linked.{LinkedMethod, method_place}
use Rattle.type_rules.specs.Faults.{class_fault}
use Rattle.type_rules.specs.References.{classes_of}
use Rattle.type_rules.specs.Rules.{is_first}
use Rattle.class_link.specs.declared.loaded.EditedFile.{EditedFile}
use Rattle.class_link.specs.Info.{Info, class_of}
use Rattle.class_table.specs.Table.{look, IsProgram}
use Rattle.method_laws.specs.Methods.{DiffersAt, fault_at}
use Rattle.mutator_ops.specs.declared.mutant.Mutant.{Mutant}
use Rattle.mutant_runs.specs.Edited.{IsEditBy}
use Rattle.mutant_runs.specs.Programs.{files_of, IsMutantOf}
use Rattle.mutant_runs.specs.Put.{IsEditOf}
use Rattle.mutant_runs.specs.Ready.{IsReady}

-- The class of an edit is the one that is edited with other code of one method.
abbrev pub EditsDifferInOne : Type 0
EditsDifferInOne =
    (p : List Info) (id : ℕ) (e : EditedFile) (old new : Info) → IsProgram p →
    IsEditOf p id e old new → DiffersAt e.method (class_of old) (class_of new)

-- The fault of the class that a mutant's edit makes, in the place of the class of this number, is
-- that of the edited method, beside the program's classes as they are; and that method is the first
-- of its name and descriptor.
pub record IsJudgedByMethod (p : List Info) (m : Mutant) (id : ℕ) (new : Info) : Type 0 where
  pub fault :
      class_fault (look (slice_set p id new)) m.class
      ≡ option_map (λ f. (m.edit.method, f))
      (fault_at (classes_of (look p)) m.class (class_of new) m.edit.method)
  pub first :
      (x : LinkedMethod) → slice_get (class_of new).methods m.edit.method ≡ Some x
      → is_first (method_place x.name x.desc (class_of new).methods) m.edit.method ≡ true

abbrev pub EditsAreJudged : Type 0
EditsAreJudged =
    (p : List Info) (m : Mutant) (id : ℕ) (new : Info) → IsProgram p → IsReady p →
    IsMutantOf (files_of p) m → IsEditBy p m id new → IsJudgedByMethod p m id new
