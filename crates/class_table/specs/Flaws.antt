-- Which classes have a fault that a program's classes may not have (this project's own). No public
-- clause cites these.
use Rattle.std.specs.Prelude.{◌≡◌, ℕ, suc, Bool, not, List, [], ◌∷◌, map, Option, Some, None}
use Rattle.program_rules.specs.Names.{Name}
use Rattle.class_link.specs.Info.{Info}
use Rattle.class_order.specs.declared.links.Links.{Links}
use Rattle.class_order.specs.declared.standing.Standing.{Standing}
use Rattle.class_order.specs.Standings.{AreStandings}
use Rattle.class_order.specs.Ranks.{HasRanks}
use Rattle.class_table.specs.declared.flaws.Flaw.{Flaw}
use Rattle.class_table.specs.declared.flaws.Flaw.TheVariants.{RepeatsName, MissesSuper, StandsAboveItself, NamesWrongKind}
use Rattle.class_table.specs.declared.fault.TableFault.{TableFault}
use Rattle.class_table.specs.Table.{names, look, place_in, IsProgram}
use Rattle.class_table.specs.declared.supers.Supers.{Supers}
use Rattle.class_table.specs.declared.least.Least.{Least}
use Rattle.class_table.specs.Least.{IsLeastSoFar, IsLeastMarked}
use Rattle.class_table.specs.Numbers.{is_place}
use Rattle.class_table.specs.Supers.{misses, names_wrong, is_cyclic, AreLinks, AreSupers}
use Rattle.class_table.specs.Faults.{IsFaultless, IsFirstFault}

-- Which of these names stand at a place before their own one. The first of them stands at i.
abbrev pub repeated_from : List Name → ℕ → List Name → List Bool
repeated_from ns i [] = []
repeated_from ns i (m ∷ more) = not (is_place (place_in ns m) i) ∷ repeated_from ns (suc i) more

abbrev pub repeated : List Name → List Bool
repeated ns = repeated_from ns 0 ns

-- Which classes are what none may be, where this was found of them.
abbrev pub marks_of : Flaw → List Info → List Standing → List Bool
marks_of RepeatsName p found = repeated (names p)
marks_of MissesSuper p found = map (misses p) p
marks_of StandsAboveItself p found = map is_cyclic found
marks_of NamesWrongKind p found = map (names_wrong p) p

-- Of so many classes the least that is what none may be, or none is.
abbrev pub IsLeastUpTo : Flaw → List Info → List Standing → ℕ → Option Least → Type 0
IsLeastUpTo flaw p found count least =
    IsLeastSoFar (names p) (marks_of flaw p found) count least

-- The least name of a class that is what none may be, if one is.
abbrev pub IsLeastFlawed : Flaw → List Info → List Standing → Option Name → Type 0
IsLeastFlawed flaw p found least = IsLeastMarked (names p) (marks_of flaw p found) least

-- This is found of the classes.
pub record AreFound (p : List Info) (found : List Standing) : Type 0 where
  pub links : List Links
  pub linked : AreLinks p links
  pub right : AreStandings links found

-- This is the first fault of these classes.
abbrev pub IsFirstFaultOf : List Info → TableFault → Type 0
IsFirstFaultOf p fault = IsFirstFault (names p) (look p) fault

-- There is no fault, or this is the first.
abbrev pub IsFirstOrNone : List Info → Option TableFault → Type 0
IsFirstOrNone p None = IsFaultless (names p) (look p)
IsFirstOrNone p (Some fault) = IsFirstFaultOf p fault

-- What is kept of the supers of a program's classes, where the classes have no fault.
pub record AreSoundSupers (p : List Info) (s : Supers) : Type 0 where
  pub supers : AreSupers p s
  pub program : IsProgram p
  pub faultless : IsFaultless (names p) (look p)

-- The program of these classes, where they have no fault.
pub record IsTableOf (classes p : List Info) : Type 0 where
  pub same : p ≡ classes
  pub ranks : HasRanks (look classes)
  pub faultless : IsFaultless (names classes) (look classes)
