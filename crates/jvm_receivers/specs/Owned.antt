-- Whether references name the class itself or a direct superinterface of it, by the number of the
-- class and an index of its constant pool.
use Rattle.std.specs.Prelude.{◌≡◌, ℕ, Bool, List, Option, Some}
use Rattle.class_link.specs.declared.linked.Entry.TheVariants as entry
use Rattle.class_link.specs.declared.linked.MethodRef.{MethodRef}
use Rattle.class_link.specs.Info.{Info}
use Rattle.jvm_link.specs.Holding.{held}
use Rattle.jvm_link.specs.References.{IsEntry}
use Rattle.jvm_receivers.specs.Receivers.{is_own}

-- This tells it of the reference to a method that stands at this index.
abbrev pub TellsOwn : List Info → ℕ → ℕ → Bool → Type 0
TellsOwn p class index own =
    (r : MethodRef) → IsEntry p class index (entry.Method r) → own ≡ is_own p class r.class

-- All that is held is right.
abbrev pub AreOwned : List Info → List (List (Option Bool)) → Type 0
AreOwned p rows =
    (class index : ℕ) (own : Bool) → held class index rows ≡ Some own → TellsOwn p class index own
