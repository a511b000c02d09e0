-- What a call that adds to a value where it stands gives (this project's own).
use Rattle.std.specs.Prelude.{Bool, true, false, Option, Some, None}

-- The value, where the call took what was to be added.
abbrev pub given_if : {A : Type 0} → Bool → A → Option A
given_if true value = Some value
given_if false value = None
