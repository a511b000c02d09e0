-- When what a native method means fits its descriptor.
use Rattle.std.specs.Prelude.{◌≡◌, ℕ, Bool, List, Option, All, Some, slice_get}
use Rattle.program_rules.specs.Names.{Name}
use Rattle.program_rules.specs.Kinds.{Kind}
use Rattle.program_rules.specs.Linked.{LinkedMethod, is_static}
use Rattle.program_rules.specs.Programs.{Look}
use Rattle.program_rules.specs.Deeds.{Meaning}
use Rattle.class_link.specs.declared.loaded.LibClass.{LibClass}
use Rattle.class_link.specs.Linking.{link_library}
use Rattle.type_laws.specs.Soundness.{NativeFits, BodyFits}

-- What is meant fits each method of a class that has these kinds of arguments and this result, and
-- is static or isn't.
unfoldable pub FitsAs : Look → Name → Bool → List Kind → Option Kind → Meaning → Type 0
FitsAs p n static args result meaning =
    (m : LinkedMethod) → is_static m.flags ≡ static → m.args ≡ args → m.result ≡ result →
    NativeFits p n m meaning

-- Each native method of a class of the library, as it is linked, does a deed that fits.
abbrev pub MethodsFit : Look → LibClass → Type 0
MethodsFit p c =
    (k : ℕ) (m : LinkedMethod) → slice_get (link_library c).methods k ≡ Some m →
    BodyFits p c.name m m.body

-- The same of several classes.
abbrev pub AllFit : Look → List LibClass → Type 0
AllFit p cs = All (MethodsFit p) cs
