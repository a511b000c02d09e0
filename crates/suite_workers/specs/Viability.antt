-- What parts of a list tell, one behind the other (this project's own).
use Rattle.std.specs.Prelude.{◌++◌, Bool, List, [], ◌∷◌, All, Result, Ok, Err}
use Rattle.class_model.specs.declared.memory.Memory.{Memory}
use Rattle.class_link.specs.Info.{Info}
use Rattle.mutator_ops.specs.declared.mutant.Mutant.{Mutant}
use Rattle.suite_jobs.specs.Below.{mutant_runs_files_of as files_of, IsMutantOf, IsReady}

-- Memory ran out in one of them, or all is told.
abbrev pub with_rest : List Bool → Result (List Bool) Memory → Result (List Bool) Memory
with_rest told (Ok rest) = Ok (told ++ rest)
with_rest told (Err memory) = Err memory

abbrev pub told_by : List (Result (List Bool) Memory) → Result (List Bool) Memory
told_by [] = Ok []
told_by (Ok told ∷ parts) = with_rest told (told_by parts)
told_by (Err memory ∷ parts) = Err memory

-- It may be asked which of these are viable.
pub record MayBeAsked (p : List Info) (mutants : List Mutant) : Type 0 where
  pub ready : IsReady p
  pub fit : All (IsMutantOf (files_of p)) mutants
