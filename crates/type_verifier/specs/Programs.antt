-- The first fault of a class and of a program.
use Rattle.std.specs.Prelude.{◌≡◌, ◌<◌, ◌+◌, ℕ, Bool, true, false, List, length, All, Option, Some, None, slice_get}
use Rattle.std.specs.Ordering.{nat_cmp, is_lt}
use Rattle.std.specs.Cmp.Lexicographic.{slice_cmp}
use Rattle.class_model.specs.Text.{text}
use Rattle.program_rules.specs.Names.{Name}
use Rattle.program_rules.specs.Linked.{Linked}
use Rattle.program_rules.specs.Programs.{Look}
use Rattle.type_rules.specs.Rules.{MethodFault, ClassAccepted, IsFirstInClass, IsFirstInProgram}
use Rattle.class_model.specs.declared.class.ClassId.{ClassId}
use Rattle.class_link.specs.declared.linked.LinkedClass.{LinkedClass}
use Rattle.class_link.specs.declared.linked.LinkedMethod.{LinkedMethod}
use Rattle.class_link.specs.Info.{Info}
use Rattle.class_table.specs.Table.{look, name_at}
use Rattle.type_verifier.specs.declared.own.Own.{Own}
use Rattle.type_verifier.specs.declared.end.VerifyFault.{VerifyFault}
use Rattle.type_verifier.specs.declared.programs.Found.{Found}
use Rattle.type_verifier.specs.ProgramTables.{HasShortCode}
use Rattle.type_verifier.specs.Methods.{FaultIn}

-- ---- what is asked of a program

-- Instructions have numbers in all its methods.
abbrev pub AreNumbered : List Info → Type 0
AreNumbered p = All (λ i. All HasShortCode i.linked.methods) p

-- The classes of the library are accepted.
abbrev pub IsLibraryAccepted : Look → Type 0
IsLibraryAccepted p = (n : Name) (c : Linked) → p n ≡ Some c → c.library ≡ true → ClassAccepted p n

-- ---- the first fault of a class

-- The place in a method, and the rule that refuses there.
abbrev pub place_of : VerifyFault → MethodFault
place_of f = record { at = f.at; rule = f.rule }

-- This is the fault of a method of the class of this name, and no method before it has one.
pub record IsFirstIn (p : List Info) (n : Name) (c : LinkedClass) (f : VerifyFault) : Type 0 where
  pub method : LinkedMethod
  pub there : slice_get c.methods f.method ≡ Some method
  pub fault : FaultIn p n c f.method method (Some (record { at = f.at; rule = f.rule }))
  pub before :
      (j : ℕ) (m : LinkedMethod) → j < f.method → slice_get c.methods j ≡ Some m
      → FaultIn p n c j m None

-- No method has a fault.
abbrev pub AreFaultless : List Info → Name → LinkedClass → Type 0
AreFaultless p n c =
    (j : ℕ) (m : LinkedMethod) → slice_get c.methods j ≡ Some m → FaultIn p n c j m None

-- What is answered of the class of this name and number.
abbrev pub FirstRefusedIn :
    List Info → Name → LinkedClass → ClassId → Option VerifyFault → Type 0
FirstRefusedIn p n c id None = AreFaultless p n c
FirstRefusedIn p n c id (Some f) = (f.class ≡ id) × IsFirstIn p n c f

abbrev pub FirstRefusedIs : Own → Option VerifyFault → Type 0
FirstRefusedIs o r = FirstRefusedIn o.program.now o.name.now o.linked.now o.id r

-- The class of this number, of a class file whose instructions have numbers.
pub record IsFileOf (p : List Info) (id : ℕ) (i : Info) : Type 0 where
  pub there : slice_get p id ≡ Some i
  pub file : i.linked.library ≡ false
  pub short : All HasShortCode i.linked.methods

-- A class is refused by this fault, which is its first.
pub record IsRefused (p : List Info) (id : ℕ) (f : VerifyFault) : Type 0 where
  pub class : f.class.0 ≡ id
  pub first : IsFirstInClass (look p) (name_at p id) f.method (place_of f)

abbrev pub ClassFaultIs : List Info → ℕ → Option VerifyFault → Type 0
ClassFaultIs p id None = ClassAccepted (look p) (name_at p id)
ClassFaultIs p id (Some f) = IsRefused p id f

-- ---- the first fault of a program

-- Names are ordered by their bytes in modified UTF-8.
abbrev pub comes_before : Name → Name → Bool
comes_before m n = is_lt (slice_cmp nat_cmp (text m) (text n))

-- A program is refused by this fault, which is its first.
pub record IsFirstRefused (p : List Info) (f : VerifyFault) : Type 0 where
  pub within : f.class.0 < length p
  pub first : IsFirstInProgram comes_before (look p) (name_at p f.class.0) f.method (place_of f)

-- Whether bytes come before those of the class of a fault, if there is one.
abbrev pub before_found : List ℕ → Option Found → Bool
before_found bytes None = true
before_found bytes (Some f) = is_lt (slice_cmp nat_cmp bytes f.name)

-- Of so many classes this is the least that has a fault.
pub record IsFoundAmong (p : List Info) (count : ℕ) (f : Found) : Type 0 where
  pub within : f.fault.class.0 < length p
  pub bytes : f.name ≡ text (name_at p f.fault.class.0)
  pub refused : IsRefused p f.fault.class.0 f.fault
  pub before :
      (j : ℕ) → j < count → comes_before (name_at p j) (name_at p f.fault.class.0) ≡ true
      → ClassAccepted (look p) (name_at p j)

-- None of so many classes has a fault, or this is the least that has one.
abbrev pub FoundAmong : List Info → ℕ → Option Found → Type 0
FoundAmong p count None = (j : ℕ) → j < count → ClassAccepted (look p) (name_at p j)
FoundAmong p count (Some f) = IsFoundAmong p count f

-- One more class.
abbrev pub GoesOn : List Info → ℕ → Option Found → Option Found → Type 0
GoesOn p id old new = FoundAmong p id old → FoundAmong p (id + 1) new
