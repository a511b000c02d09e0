-- The program that a mutant's edit makes (this project's own).
use Rattle.std.specs.Prelude.{◌≡◌, ℕ, if◌then◌else◌, List, Option, Some, None, is_some, IfSome, MatchOption, slice_get, slice_set, option_and_then}
use Rattle.std.specs.Option.{option_map}
use Rattle.std.specs.Arc.{arc_value}
use Rattle.std.specs.declared.sync.Arc.{Arc}
use Rattle.class_model.specs.declared.class.Class.{Class}
use Rattle.class_model.specs.declared.class.ClassId.{ClassId}
use Rattle.class_reader.specs.Spells.{IsClass}
use Rattle.class_writer.specs.Writing.{HasClassForm}
use Rattle.program_rules.specs.Names.{Name, same}
use Rattle.program_rules.specs.Programs.{Look}
use Rattle.class_link.specs.Info.{Info, own_name, file_in}
use Rattle.class_link.specs.Linking.{link}
use Rattle.class_table.specs.Table.{number_of, name_at, look}
use Rattle.type_rules.specs.Faults.{class_fault}
use Rattle.mutant_runs.specs.Codes.{IsBoundedBody}
use Rattle.mutant_runs.specs.Put.{IsPut}
use Rattle.mutant_apply.specs.Edited.{applied}
use Rattle.mutant_apply.specs.Fitting.{Fits}
use Rattle.mutator_ops.specs.declared.mutant.Mutant.{Mutant}

-- The class file of each name.
abbrev pub ClassFiles : Type 0
ClassFiles = Name → Option Class

-- The class files of a program. A class of the library has none.
abbrev pub files_of : List Info → ClassFiles
files_of p n = option_and_then (λ id. option_and_then file_in (slice_get p id)) (number_of p n)

-- A program in which this class file stands in the place of the class of its name.
abbrev pub with_class : Class → Look → Look
with_class c p n = if same n (own_name c) then Some (link c) else p n

-- The program that a mutant's edit makes; none where the edited class has no layout.
abbrev pub edited : ClassFiles → Look → Mutant → Option Look
edited files p m = option_map (λ made. with_class made.0 p) (option_and_then (λ c. applied c m.edit) (files m.class))

-- A program in which the class of this name is accepted; none where it is refused.
abbrev pub with_accepted : Name → Look → Option Look
with_accepted n p = if is_some (class_fault p n) then None else Some p

-- The program that a mutant is run as; none where the edited class has no layout or is refused.
-- Where it is accepted, so is the program, if the one that is edited is (`accepted_edits`).
abbrev pub viable : ClassFiles → Look → Mutant → Option Look
viable files p m = option_and_then (with_accepted m.class) (edited files p m)

-- The class file of the mutant's class, if there is one, takes its edit and has a spelling; where
-- there is none, nothing is asked.
abbrev pub IsMutantOf : ClassFiles → Mutant → Type 0
IsMutantOf files m = IfSome (files m.class) (λ c. HasClassForm c × Fits c m.edit × IsClass c)

-- The class that a mutant's edit makes takes the place of the one of this number, whose name the
-- mutant has; its codes are within the bounds of a class file, and the program then is the one that
-- the edit makes.
pub record Makes (p : List Info) (m : Mutant) (id : ℕ) (class : Info) : Type 0 where
  pub old : Info
  pub put : IsPut p id old class
  pub name : name_at p id ≡ m.class
  pub bounded : IsBoundedBody class.body
  pub program : edited (files_of p) (look p) m ≡ Some (look (slice_set p id class))

-- What is made of a mutant's edit: the number and the class that it makes, or none where the edited
-- class has no layout.
abbrev pub ComesOf : {Z : Type 0} → List Info → Mutant → Option (ClassId × Arc Info Z) → Type 0
ComesOf p m made =
    MatchOption made (edited (files_of p) (look p) m ≡ None) (λ a. Makes p m a.0.0 (arc_value a.1))
