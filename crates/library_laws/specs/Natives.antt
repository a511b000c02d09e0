-- That each native method does what fits its descriptor, but for the classes that keep references.
use Rattle.std.specs.Prelude.{◌≡◌, ℕ, Bool, false, List, [], ◌∷◌, Some, slice_get, codes}
use Rattle.program_rules.specs.Names.{Name, is_listed}
use Rattle.program_rules.specs.Programs.{Look}
use Rattle.class_link.specs.declared.loaded.LibClass.{LibClass}
use Rattle.lib_table.specs.Library.{library}
use Rattle.library_laws.specs.Fits.{MethodsFit}
use Rattle.library_laws.specs.Hosts.{IsNativeHost}

-- The classes whose natives keep references in objects, or make such objects.
abbrev pub keeping_classes : List Name
keeping_classes =
    codes "java/util/ArrayList" ∷ codes "mt/Hashed" ∷ codes "java/util/HashMap"
    ∷ codes "java/util/HashSet" ∷ codes "mt/Iter" ∷ codes "java/util/Collections"
    ∷ codes "java/util/Arrays" ∷ codes "java/lang/Enum" ∷ codes "java/util/Optional" ∷ []

abbrev pub is_keeping : LibClass → Bool
is_keeping c = is_listed c.name keeping_classes

-- The methods of each other class of the library fit.
abbrev pub OthersFit : Type 0
OthersFit =
    (p : Look) → IsNativeHost p → (j : ℕ) (c : LibClass) → slice_get library j ≡ Some c →
    is_keeping c ≡ false → MethodsFit p c
