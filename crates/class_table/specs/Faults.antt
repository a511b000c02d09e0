-- Whether given classes are a program, and which fault is told where they are none: two classes of
-- one name, a super that is missing, a class above itself, a super of a wrong kind, each over all
-- classes by name before the next (this project's own).
use Rattle.std.specs.Prelude.{◌≡◌, false, ⊤, List, map, Option, slice_get, option_and_then, IsTrue, Result, Err}
use Rattle.std.specs.Option.{option_map}
use Rattle.program_rules.specs.Names.{Name}
use Rattle.program_rules.specs.Programs.{Look}
use Rattle.class_order.specs.Supers.{is_super_missing, IsOwnSuper, is_super_of_wrong_kind, IsLeastWith}
use Rattle.class_link.specs.declared.loaded.ClassBody.{ClassBody}
use Rattle.class_link.specs.Info.{body_name, link_body}
use Rattle.class_table.specs.declared.fault.TableFault.{TableFault}
use Rattle.class_table.specs.declared.fault.TableFault.TheVariants.{Duplicate, SuperMissing, SuperCycle, SuperKind}
use Rattle.class_table.specs.declared.fault.TableFault.TheVariants as fault
use Rattle.class_table.specs.Table.{place_in, AreDistinct, IsLeastDuplicate}

-- The class that these have for a name: of several the first.
abbrev pub body_named : List ClassBody → Name → Option ClassBody
body_named bs n = option_and_then (slice_get bs) (place_in (map body_name bs) n)

-- What these classes say, by name.
abbrev pub look_of : List ClassBody → Look
look_of bs n = option_map link_body (body_named bs n)

-- No super is missing.
abbrev pub HaveSupers : Look → Type 0
HaveSupers p = (n : Name) → is_super_missing p n ≡ false

-- No class stands above itself.
abbrev pub IsAcyclic : Look → Type 0
IsAcyclic p = (n : Name) → IsOwnSuper p n → ⊥

-- No super is of a wrong kind.
abbrev pub HasRightKinds : Look → Type 0
HasRightKinds p = (n : Name) → is_super_of_wrong_kind p n ≡ false

-- Classes of these names, and what they say, have none of these faults.
pub record IsFaultless (ns : List Name) (p : Look) : Type 0 where
  pub apart : AreDistinct ns
  pub present : HaveSupers p
  pub acyclic : IsAcyclic p
  pub kinds : HasRightKinds p

-- Their first fault is a super that is missing, and this is the least class with it.
pub record MissesFirst (ns : List Name) (p : Look) (n : Name) : Type 0 where
  pub apart : AreDistinct ns
  pub least : IsLeastWith ns (λ m. IsTrue (is_super_missing p m)) n

-- Their first fault is a class above itself, and this is the least one.
pub record CyclesFirst (ns : List Name) (p : Look) (n : Name) : Type 0 where
  pub apart : AreDistinct ns
  pub present : HaveSupers p
  pub least : IsLeastWith ns (IsOwnSuper p) n

-- Their first fault is a super of a wrong kind, and this is the least class with it.
pub record IsWrongFirst (ns : List Name) (p : Look) (n : Name) : Type 0 where
  pub apart : AreDistinct ns
  pub present : HaveSupers p
  pub acyclic : IsAcyclic p
  pub least : IsLeastWith ns (λ m. IsTrue (is_super_of_wrong_kind p m)) n

-- Their first fault is this one. Want of memory says nothing of them.
abbrev pub IsFirstFault : List Name → Look → TableFault → Type 0
IsFirstFault ns p (Duplicate n) = IsLeastDuplicate ns n
IsFirstFault ns p (SuperMissing n) = MissesFirst ns p n
IsFirstFault ns p (SuperCycle n) = CyclesFirst ns p n
IsFirstFault ns p (SuperKind n) = IsWrongFirst ns p n
IsFirstFault ns p fault.Memory = ⊤

-- What is so where an answer is this fault of a class.
abbrev pub IfDuplicate : {A : Type 0} → Result A TableFault → (Name → Type 0) → Type 0
IfDuplicate result Says = (n : Name) → result ≡ Err (Duplicate n) → Says n

abbrev pub IfSuperMissing : {A : Type 0} → Result A TableFault → (Name → Type 0) → Type 0
IfSuperMissing result Says = (n : Name) → result ≡ Err (SuperMissing n) → Says n

abbrev pub IfSuperCycle : {A : Type 0} → Result A TableFault → (Name → Type 0) → Type 0
IfSuperCycle result Says = (n : Name) → result ≡ Err (SuperCycle n) → Says n

abbrev pub IfSuperKind : {A : Type 0} → Result A TableFault → (Name → Type 0) → Type 0
IfSuperKind result Says = (n : Name) → result ≡ Err (SuperKind n) → Says n

-- ---- the same of given classes

-- The classes are a program.
abbrev pub AreProgram : List ClassBody → Type 0
AreProgram bs = IsFaultless (map body_name bs) (look_of bs)

-- A super is missing first, and this is the least class with that fault.
abbrev pub IsFirstMissing : List ClassBody → Name → Type 0
IsFirstMissing bs n = MissesFirst (map body_name bs) (look_of bs) n

-- A class stands above itself first, and this is the least one.
abbrev pub IsFirstCycle : List ClassBody → Name → Type 0
IsFirstCycle bs n = CyclesFirst (map body_name bs) (look_of bs) n

-- A super is of a wrong kind first, and this is the least class with that fault.
abbrev pub IsFirstWrongKind : List ClassBody → Name → Type 0
IsFirstWrongKind bs n = IsWrongFirst (map body_name bs) (look_of bs) n
