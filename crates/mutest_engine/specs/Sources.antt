-- The sources of a report: what a folder holds at the keys of its files, where one is named (this
-- project's own).
use Rattle.std.specs.Prelude.{◌≡◌, ℕ, List, [], Option, None, Some, Result, Ok, Err}
use Rattle.mt_edge.specs.Files.{Files}
use Rattle.report_pieces.specs.declared.input.Group.{Group}
use Rattle.report_pieces.specs.declared.input.ReportInput.{ReportInput}
use Rattle.report_sources.specs.Sources.{sources_of}
use Rattle.report_sources.specs.declared.fault.SourceFault.{SourceFault}
use Rattle.report_sources.specs.declared.fault.SourceFault.TheVariants as fault
use Rattle.mutest_engine.specs.declared.refusal.Limit.TheVariants as limit
use Rattle.mutest_engine.specs.declared.refusal.Refusal.{Refusal}
use Rattle.mutest_engine.specs.declared.refusal.Refusal.TheVariants.{TooMany}
use Rattle.mutest_engine.specs.declared.stop.Halt.{Halt}
use Rattle.mutest_engine.specs.declared.stop.Halt.TheVariants as halt

-- too many bytes are refused
abbrev pub or_too_many : {X : Type 0} → Result X ℕ → Result X Refusal
or_too_many (Ok x) = Ok x
or_too_many (Err bytes) = Err (TooMany limit.Sources bytes)

-- the sources of files below a folder
abbrev pub sources_below : List ℕ → List Group → Files → Result (List (List ℕ)) Refusal
sources_below folder groups files = or_too_many (sources_of folder groups files)

-- Without a folder there are none.
abbrev pub sources_in : Option (List ℕ) → List Group → Files → Result (List (List ℕ)) Refusal
sources_in None groups files = Ok []
sources_in (Some folder) groups files = sources_below folder groups files

-- what is reported, with its sources
abbrev pub with_sources : ReportInput → List (List ℕ) → ReportInput
with_sources input sources = record {
  mutants = input.mutants;
  verdicts = input.verdicts;
  tests = input.tests;
  files = input.files;
  test_files = input.test_files;
  sources = sources;
}

-- ---- whatever a tree tells

-- There are sources only where a folder is named.
abbrev pub AreNamed : Option (List ℕ) → List (List ℕ) → Type 0
AreNamed None sources = sources ≡ []
AreNamed (Some folder) sources = Unit {0}

-- How a call halts by a fault of sources.
abbrev pub halt_of : SourceFault → Halt
halt_of (fault.TooMany bytes) = halt.Refused (TooMany limit.Sources bytes)
halt_of fault.Failed = halt.ReadFault 1
halt_of fault.Memory = halt.WantOfMemory
