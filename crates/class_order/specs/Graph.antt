-- Classes that name others as their supers, by number (this project's own).
use Rattle.std.specs.Prelude.{◌≡◌, ◌<◌, ℕ, List, [], ◌∷◌, Option, Some, None, slice_get}
use Rattle.class_order.specs.declared.links.Links.{Links}

-- The superclass, if there is one, and then the interfaces.
abbrev pub with_parent : Option ℕ → List ℕ → List ℕ
with_parent None ns = ns
with_parent (Some n) ns = n ∷ ns

-- The supers that a class names, in the order of consulting.
abbrev pub supers_of : Links → List ℕ
supers_of l = with_parent l.parent l.interfaces.items

abbrev pub supers_in : Option Links → List ℕ
supers_in None = []
supers_in (Some l) = supers_of l

-- The same of the class of a number.
abbrev pub supers_at : List Links → ℕ → List ℕ
supers_at g a = supers_in (slice_get g a)

-- Each super has a number below that of the classes.
abbrev pub AreWithin : List Links → ℕ → Type 0
AreWithin g count =
    (a k b : ℕ) → slice_get (supers_at g a) k ≡ Some b → b < count

-- A class is another one, or stands below it.
pub data Leads (g : List Links) : ℕ → ℕ → Type 0 where
  same : (a : ℕ) → Leads g a a
  up : (a k b c : ℕ) → slice_get (supers_at g a) k ≡ Some b → Leads g b c → Leads g a c

-- A class stands above itself: one of its supers is that class, or stands below it.
pub record IsAboveItself (g : List Links) (a : ℕ) : Type 0 where
  pub place : ℕ
  pub over : ℕ
  pub names : slice_get (supers_at g a) place ≡ Some over
  pub back : Leads g over a
