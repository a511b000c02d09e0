-- What is held by number: the values of static fields, and the open monitorenters of objects.
use Rattle.std.specs.Prelude.{◌≡◌, ℕ, ◌&&◌, nat_eq, if◌then◌else◌, List, [], Option, Some, None}
use Rattle.std.proofs.Common.{get_or}
use Rattle.program_rules.specs.declared.value.Value.{Value}
use Rattle.program_rules.specs.Kinds.{Kind, default_of}

-- The value that was stored last in the static field of a class at a place, if one was.
abbrev pub held : ℕ → ℕ → List (List (Option Value)) → Option Value
held class place rows = get_or (get_or rows class []) place None

-- This value, else what a field of the kind holds at first.
abbrev pub value_or : Kind → Option Value → Value
value_or k None = default_of k
value_or k (Some v) = v

-- The static field of a class at a place holds this value, and each other one what it held.
abbrev pub Stores : ℕ → ℕ → Value → List (List (Option Value)) → List (List (Option Value)) → Type 0
Stores class place value old new =
    (c l : ℕ) → held c l new
    ≡ (if nat_eq class c && nat_eq place l then Some value else held c l old)

-- Each static field holds what it held.
abbrev pub HoldSame : List (List (Option Value)) → List (List (Option Value)) → Type 0
HoldSame old new = (c l : ℕ) → held c l new ≡ held c l old

-- The open monitorenters of an object, by the counts of all objects.
abbrev pub opened : ℕ → List ℕ → ℕ
opened x counts = get_or counts x 0

-- So many are open for an object, and as many as before for each other one.
abbrev pub Opens : ℕ → ℕ → List ℕ → List ℕ → Type 0
Opens object count old new =
    (x : ℕ) → opened x new ≡ (if nat_eq object x then count else opened x old)
