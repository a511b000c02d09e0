-- A program of a worker's own, in which the class of a mutant may stand edited (this project's own).
use Rattle.std.specs.Prelude.{◌≡◌, ◌==◌, ℕ, Bool, true, false, List, Option, Some, None, IfSome, is_some, slice_get, slice_set}
use Rattle.std.specs.Arc.{arc_value}
use Rattle.program_rules.specs.Names.{Name}
use Rattle.class_link.specs.Info.{Info}
use Rattle.class_table.specs.Table.{look}
use Rattle.run_records.specs.Below.{AreNamedOf, AreTablesOf}
use Rattle.mutator_ops.specs.declared.mutant.Mutant.{Mutant}
use Rattle.suite_jobs.specs.Below.{IsEditBy}
use Rattle.suite_jobs.specs.Below.{IsKept}
use Rattle.suite_jobs.specs.Below.{mutant_runs_files_of as files_of, mutant_runs_edited as edited, Makes}
use Rattle.history_index.specs.declared.standings.Swap.{Swap}
use Rattle.history_index.specs.Standings.{IsSwap}
use Rattle.run_records.specs.Asking.{bytes_of}
use Rattle.suite_workers.specs.declared.look_ups.InHistory.{InHistory}
use Rattle.suite_workers.specs.declared.standing.Stand.{Stand}
use Rattle.suite_workers.specs.declared.standing.Standing.{Standing}

-- The program with the class put back that stood there before.
abbrev pub base_in : List Info → Option Standing → List Info
base_in p None = p
base_in p (Some st) = slice_set p st.id.0 (arc_value st.original)

abbrev pub base_of : Stand → List Info
base_of s = base_in s.program s.standing

-- Of a history, what is another one where this class stands in the place of the one of its name.
abbrev pub IsSwapOf : Option InHistory → Name → Info → Option Swap → Type 0
IsSwapOf history name edited swap =
    IfSome history (λ h. (bytes : List ℕ) → bytes_of edited ≡ Some bytes →
    IsSwap h.index.now.history name bytes swap)

-- The class of this mutant stands edited in a program that was made of this one.
pub record HasStanding
    (p program : List Info) (history : Option InHistory) (m : Mutant) (st : Standing)
    : Type 0 where
  pub edited : Info
  pub there : slice_get p st.id.0 ≡ Some (arc_value st.original)
  pub program_is : program ≡ slice_set p st.id.0 edited
  pub makes : Makes p m st.id.0 edited
  pub edit : IsEditBy p m st.id.0 edited
  pub swap_is : IsSwapOf history m.class edited st.swap

abbrev pub HasStandingAt :
    List Info → List Info → Option InHistory → List Mutant → Standing → Type 0
HasStandingAt p program history mutants st =
    (m : Mutant) × (slice_get mutants st.mutant ≡ Some m) × HasStanding p program history m st

-- What is kept beside a program in which a mutant's class may stand: it was made of this one. What
-- tables hold by names is of that one, too.
pub record IsStand
    (p : List Info) (history : Option InHistory) (mutants : List Mutant) (s : Stand)
    : Type 0 where
  pub base : base_of s ≡ p
  pub named : AreNamedOf p s.tables
  pub kept : IsKept p s.kept
  pub standing : IfSome s.standing (HasStandingAt p s.program history mutants)
  pub tables : IfSome s.standing (λ st. AreTablesOf s.program s.tables)

-- No mutant's class stands in it.
pub record IsBare (p : List Info) (s : Stand) : Type 0 where
  pub program_is : s.program ≡ p
  pub none : s.standing ≡ None
  pub named : AreNamedOf p s.tables
  pub kept : IsKept p s.kept

abbrev pub is_standing_for : ℕ → Option Standing → Bool
is_standing_for mutant None = false
is_standing_for mutant (Some st) = st.mutant == mutant

abbrev pub is_standing : Stand → ℕ → Bool
is_standing s mutant = is_standing_for mutant s.standing

-- A mutant's edit has a layout.
abbrev pub HasEdit : List Info → Mutant → Type 0
HasEdit p m = is_some (edited (files_of p) (look p) m) ≡ true

-- The mutant of this number stands there, and its tables are found.
pub record StandsFor
    (p : List Info) (history : Option InHistory) (mutant : ℕ) (m : Mutant) (s : Stand)
    : Type 0 where
  pub standing : Standing
  pub is : s.standing ≡ Some standing
  pub number : standing.mutant ≡ mutant
  pub has : HasStanding p s.program history m standing
  pub named : AreNamedOf p s.tables
  pub kept : IsKept p s.kept
  pub tables : AreTablesOf s.program s.tables

-- So it is of the mutant of this number among these.
abbrev pub StandsAt :
    List Info → Option InHistory → List Mutant → ℕ → Stand → Type 0
StandsAt p history mutants mutant s =
    (m : Mutant) × (slice_get mutants mutant ≡ Some m) × StandsFor p history mutant m s

-- What another one is in the program that a mutant's class stands in.
abbrev pub swap_in : Option Standing → Option Swap
swap_in None = None
swap_in (Some st) = st.swap

abbrev pub HasEditAt : List Info → List Mutant → ℕ → Type 0
HasEditAt p mutants mutant = (m : Mutant) → slice_get mutants mutant ≡ Some m → HasEdit p m
