-- The codes of methods, kept by the number of a class and the place among its methods.
use Rattle.std.specs.Prelude.{◌≡◌, ℕ, Bool, true, false, ◌&&◌, nat_eq, if◌then◌else◌, List, [], Option, Some, None, IsSomeAnd}
use Rattle.std.proofs.Common.{get_or}
use Rattle.class_link.specs.Info.{Info}
use Rattle.jvm_act.specs.declared.methods.MethodCode.{MethodCode}
use Rattle.jvm_act.specs.Methods.{IsCodeOf, HasNoCode}

-- What is held of a method, if anything is.
abbrev pub held : ℕ → ℕ → List (List (Option MethodCode)) → Option MethodCode
held class place rows = get_or (get_or rows class []) place None

-- This is held of a method, and of each other one what was held.
abbrev pub Holds :
    ℕ → ℕ → MethodCode → List (List (Option MethodCode)) → List (List (Option MethodCode)) → Type 0
Holds class place code old new =
    (c i : ℕ) → held c i new
    ≡ (if nat_eq class c && nat_eq place i then Some code else held c i old)

-- Of each method is held what was.
abbrev pub HoldSame :
    List (List (Option MethodCode)) → List (List (Option MethodCode)) → Type 0
HoldSame old new = (c i : ℕ) → held c i new ≡ held c i old

-- All that is held is right.
abbrev pub AreCodes : List Info → List (List (Option MethodCode)) → Type 0
AreCodes p rows =
    (class place : ℕ) (m : MethodCode) → held class place rows ≡ Some m → IsCodeOf p class place m

-- The code of a method is held.
abbrev pub IsHeld : List Info → ℕ → ℕ → List (List (Option MethodCode)) → Type 0
IsHeld p class place rows = IsSomeAnd (held class place rows) (IsCodeOf p class place)

-- The same, where the method has code.
abbrev pub IsPrepared : List Info → ℕ → ℕ → Bool → List (List (Option MethodCode)) → Type 0
IsPrepared p class place true rows = IsHeld p class place rows
IsPrepared p class place false rows = HasNoCode p class place
