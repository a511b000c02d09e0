-- Whether the supers that the classes of a program name are as they have to be: the superclass and
-- the interfaces of each (JVMS 4.1, 5.3.5).
use Rattle.std.specs.Prelude.{◌≡◌, ℕ, Bool, true, false, ◌&&◌, ◌||◌, not, List, Option, Some, None, is_none, IsTrue}
use Rattle.std.specs.List.{list_any}
use Rattle.std.specs.Ordering.{nat_cmp, is_le}
use Rattle.std.specs.Cmp.Lexicographic.{slice_cmp}
use Rattle.class_model.specs.Text.{text}
use Rattle.program_rules.specs.Names.{Name, same, object_name, is_listed}
use Rattle.program_rules.specs.Linked.{Linked, parents_of, is_interface, has_flag}
use Rattle.program_rules.specs.Programs.{Look, option_list}

-- ---- a super that is missing

-- Whether a class names no superclass, and isn't Object (JVMS 4.1, super_class).
abbrev pub lacks_superclass : Name → Option Linked → Bool
lacks_superclass n None = false
lacks_superclass n (Some c) = is_none c.parent && not (same n object_name)

-- Whether the superclass of a class or one of its interfaces is no class of the program. An array
-- is none.
abbrev pub is_super_missing : Look → Name → Bool
is_super_missing p n =
    lacks_superclass n (p n) || list_any (λ m. is_none (p m)) (parents_of (p n))

-- ---- a class above itself

-- A class stands below another: that one is its superclass or one of its interfaces, or one of
-- these stands below it.
pub data IsBelow (p : Look) : Name → Name → Type 0 where
  next : (n m : Name) → is_listed m (parents_of (p n)) ≡ true → IsBelow p n m
  further :
      (n k m : Name) → is_listed k (parents_of (p n)) ≡ true → IsBelow p k m → IsBelow p n m

-- A class stands above itself.
abbrev pub IsOwnSuper : Look → Name → Type 0
IsOwnSuper p n = IsBelow p n n

-- ---- a super of a wrong kind

-- Bit 4 is ACC_FINAL (JVMS 4.1).
abbrev pub is_final : ℕ → Bool
is_final flags = has_flag flags 4

-- Whether a class can't be a superclass: a final class, and an interface. Of an absent one this
-- isn't asked.
abbrev pub is_no_superclass : Option Linked → Bool
is_no_superclass None = false
is_no_superclass (Some c) = is_final c.flags || is_interface c.flags

-- Whether a class can't be named as an interface.
abbrev pub is_no_interface : Option Linked → Bool
is_no_interface None = false
is_no_interface (Some c) = not (is_interface c.flags)

-- Whether a class can't have the superclass of this name. That of an interface is Object.
abbrev pub is_wrong_superclass : Look → Linked → Name → Bool
is_wrong_superclass p c m =
    is_no_superclass (p m) || (is_interface c.flags && not (same m object_name))

-- The same of its superclass and its interfaces.
abbrev pub names_wrong_kind : Look → Option Linked → Bool
names_wrong_kind p None = false
names_wrong_kind p (Some c) =
    list_any (is_wrong_superclass p c) (option_list c.parent)
    || list_any (λ m. is_no_interface (p m)) c.interfaces

-- Whether the superclass of a class or one of its interfaces is of a wrong kind.
abbrev pub is_super_of_wrong_kind : Look → Name → Bool
is_super_of_wrong_kind p n = names_wrong_kind p (p n)

-- ---- the class that is told

-- Of these names it is one with this fault, and of those the least in the order of their bytes in
-- modified UTF-8 (this project's own).
pub record IsLeastWith (ns : List Name) (Has : Name → Type 0) (n : Name) : Type 0 where
  pub listed : is_listed n ns ≡ true
  pub has : Has n
  pub least :
      (m : Name) → is_listed m ns ≡ true → Has m →
      IsTrue (is_le (slice_cmp nat_cmp (text n) (text m)))
