-- The cells of the mutants from a place on, and of one mutant more.
use Rattle.std.proofs.Common.{◌≡◌, ℕ, ◌+◌, ◌<◌, Bool, List, ◌++◌, length, get_or, drop, flat_map, zip, ap, ap₂, ◌∙◌, arith, length-append}
use Rattle.std.specs.Io.Iter.{u64_saturate}
use Rattle.std.specs.List.{enumerate_from}
use Rattle.std.proofs.lemmas.List.{drop_more}
use Rattle.line_coverage.specs.Coverage.{Covered}
use Rattle.test_select.specs.Cells.{cells_of}
use Rattle.test_select.specs.declared.selection.Cell.{Cell}
use Rattle.test_select.specs.declared.mutant.MutantPlace.{MutantPlace}

abbrev pub cells_behind : Covered → List MutantPlace → List Bool → ℕ → List Cell
cells_behind cover ms vs i = flat_map (cells_of cover) (enumerate_from i (zip (drop i ms) (drop i vs)))

one_more : (cover : Covered) (ms : List MutantPlace) (vs : List Bool) (i : ℕ) (m : MutantPlace) (v : Bool) → i < length ms → length vs ≡ length ms
    → cells_behind cover ms vs i ≡ cells_of cover (i, (get_or ms i m, get_or vs i v)) ++ cells_behind cover ms vs (i + 1)
one_more cover ms vs i m v lt same =
    ap₂ (λ xs ys. flat_map (cells_of cover) (enumerate_from i (zip xs ys))) (drop_more ms i m lt) (drop_more vs i v (omega arith))

pub more_counted : (cover : Covered) (ms : List MutantPlace) (vs : List Bool) (i : ℕ) (m : MutantPlace) (v : Bool) (count own new all : ℕ) → i < length ms → length vs ≡ length ms
    → own ≡ u64_saturate (length (cells_of cover (i, (get_or ms i m, get_or vs i v)))) → new ≡ u64_saturate (count + own)
    → u64_saturate (count + length (cells_behind cover ms vs i)) ≡ all → u64_saturate (new + length (cells_behind cover ms vs (i + 1))) ≡ all
more_counted cover ms vs i m v count own new all lt same of more so_far =
    let long = ap length (one_more cover ms vs i m v lt same) ∙ length-append (cells_of cover (i, (get_or ms i m, get_or vs i v))) (cells_behind cover ms vs (i + 1)) in
    omega arith
