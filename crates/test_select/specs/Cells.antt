-- The cells: which tests a mutant needs (this project's own).
use Rattle.std.specs.Prelude.{◌≡◌, ◌<◌, ◌+◌, ◌⊎◌, ℕ, Bool, if◌then◌else◌, ⊤, AllPairs}
use Rattle.std.specs.Prelude.{List, [], ◌++◌, map, length, flat_map, zip}
use Rattle.std.specs.List.{enumerate_from}
use Rattle.line_coverage.specs.Coverage.{Covered, tests_at}
use Rattle.test_select.specs.declared.selection.Cell.{Cell}
use Rattle.test_select.specs.declared.selection.SelectFault.{SelectFault}
use Rattle.test_select.specs.declared.selection.SelectFault.TheVariants as fault
use Rattle.test_select.specs.declared.mutant.MutantPlace.{MutantPlace}

abbrev pub cell : ℕ → ℕ → Cell
cell mutant test = record { mutant = mutant; test = test }

-- A mutant's place, and whether it is viable.
abbrev pub Placed : Type 0
Placed = MutantPlace × Bool

-- The cells of a mutant of this number: none where it isn't viable, else one for each test that
-- reaches its class and line.
abbrev pub cells_of : Covered → ℕ × Placed → List Cell
cells_of cover m =
    if m.1.1 then map (cell m.0) (tests_at cover m.1.0.class.0 m.1.0.line) else []

-- The cells of a mutant are added to a list.
abbrev pub AddsCells : Covered → ℕ → MutantPlace → Bool → List Cell → List Cell → Type 0
AddsCells cover mutant place viable old new = new ≡ old ++ cells_of cover (mutant, (place, viable))

-- The cells of all mutants.
abbrev pub cells : List MutantPlace → List Bool → Covered → List Cell
cells mutants viable cover = flat_map (cells_of cover) (enumerate_from 0 (zip mutants viable))

-- By mutant, and then by test.
abbrev pub IsBefore : Cell → Cell → Type 0
IsBefore a b = (a.mutant < b.mutant) ⊎ ((a.mutant ≡ b.mutant) × (a.test < b.test))

-- Cells stand by mutant and then by test.
abbrev pub CellsAscend : Type 0
CellsAscend =
    (mutants : List MutantPlace) (viable : List Bool) (cover : Covered) →
    AllPairs IsBefore (cells mutants viable cover)

abbrev pub most_cells : ℕ
most_cells = 4194304

-- These cells are too many, or memory ran out.
abbrev pub IsRefusal : List Cell → SelectFault → Type 0
IsRefusal all (fault.TooMany number) = (most_cells < length all) × (number ≡ most_cells + 1)
IsRefusal all fault.Memory = ⊤
