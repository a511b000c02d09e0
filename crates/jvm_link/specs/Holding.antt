-- What is held by the number of a class and an index of its constant pool.
use Rattle.std.specs.Prelude.{◌≡◌, ℕ, ◌&&◌, nat_eq, if◌then◌else◌, List, [], Option, Some, None}
use Rattle.std.proofs.Common.{get_or}

-- What is held for an index, if anything is.
abbrev pub held : {A : Type 0} → ℕ → ℕ → List (List (Option A)) → Option A
held class index rows = get_or (get_or rows class []) index None

-- This is held for an index, and for each other one what was held.
abbrev pub Holds : {A : Type 0} → ℕ → ℕ → A → List (List (Option A)) → List (List (Option A)) → Type 0
Holds class index item old new =
    (c i : ℕ) → held c i new
    ≡ (if nat_eq class c && nat_eq index i then Some item else held c i old)

-- For each index that is held which was.
abbrev pub HoldSame : {A : Type 0} → List (List (Option A)) → List (List (Option A)) → Type 0
HoldSame old new = (c i : ℕ) → held c i new ≡ held c i old
