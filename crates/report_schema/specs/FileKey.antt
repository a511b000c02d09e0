-- The file of a class, as the report names it, from the class's name alone (this project's own).
use Rattle.std.specs.Prelude.{ℕ, ◌-◌, ◌==◌, Bool, not, List, [], ◌∷◌, ◌++◌, length, take, drop, codes}
use Rattle.std.specs.List.{suffix_len, before_first}

abbrev pub is_no_slash : ℕ → Bool
is_no_slash unit = not (unit == 47)

abbrev pub is_dollar : ℕ → Bool
is_dollar unit = unit == 36

-- how long the package is, with the `/` behind it: what is no `/` at the end is the simple name
abbrev pub package_len : List ℕ → ℕ
package_len name = length name - suffix_len is_no_slash name

abbrev pub or_whole : List ℕ → List ℕ → List ℕ
or_whole [] whole = whole
or_whole (unit ∷ units) whole = unit ∷ units

-- the simple name of the outermost class: what stands before the first `$`, or the whole where that
-- is nothing
abbrev pub outermost : List ℕ → List ℕ
outermost name = or_whole (before_first is_dollar name) name

-- The package with `/`, the simple name of the outermost class, and `.java`.
abbrev pub file_key : List ℕ → List ℕ
file_key class =
    take (package_len class) class ++ outermost (drop (package_len class) class) ++ codes ".java"
