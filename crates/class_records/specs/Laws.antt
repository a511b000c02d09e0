-- What is said of records of class files.
use Rattle.std.specs.Prelude.{◌≡◌, true, Some}
use Rattle.program_rules.specs.Programs.{Look}
use Rattle.class_order.specs.Ranks.{HasRanks, IsOrdered}
use Rattle.record_rules.specs.declared.record.RunRecord.{RunRecord}
use Rattle.record_rules.specs.Records.{Asked, record_of}
use Rattle.record_rules.specs.Truth.{files_in, IsTrueRecord}
use Rattle.reuse_laws.specs.Asking.{IsProfile, IsAsked, AreSpelled}
use Rattle.reuse_laws.specs.Closing.{WalksAreClosed}
use Rattle.class_records.specs.Profile.{profile, is_program}

-- Class files are what the laws of records ask of a profile.
abbrev pub ClassFilesAreAProfile : Type 0
ClassFilesAreAProfile = IsProfile profile

-- In a program whose classes have ranks, as none stands above itself, what stands above a class that
-- stands above another stands above that one too.
abbrev pub OrderedWalksAreClosed : Type 0
OrderedWalksAreClosed = (p : Look) → HasRanks p → WalksAreClosed p

-- The class files that a run consulted are a program with the library, where its program has no
-- fault of supers.
abbrev pub ConsultedFilesBuild : Type 0
ConsultedFilesBuild =
    (x : Asked) (r : RunRecord) → IsAsked profile x → IsOrdered x.look → record_of x ≡ Some r →
    is_program (files_in r.consulted) ≡ true

-- So the record of each such run is true, where each class file spells a class of its name.
abbrev pub RecordsOfFilesAreTrue : Type 0
RecordsOfFilesAreTrue =
    (x : Asked) (r : RunRecord) → IsAsked profile x → AreSpelled profile x.held →
    IsOrdered x.look → record_of x ≡ Some r → IsTrueRecord profile r
