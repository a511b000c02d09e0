-- The first fault of the code of the library's classes.
use Rattle.std.specs.Prelude.{◌≡◌, ◌<◌, ℕ, true, List, length, All, Option, Some, None, slice_get}
use Rattle.program_rules.specs.Names.{Name}
use Rattle.program_rules.specs.Linked as rules
use Rattle.program_rules.specs.Linked.{Linked, code_in}
use Rattle.program_rules.specs.Programs.{Look}
use Rattle.type_rules.specs.References.{classes_of}
use Rattle.type_rules.specs.Rules.{MethodFault, ClassAccepted, body_fault}
use Rattle.class_model.specs.declared.class.ClassId.{ClassId}
use Rattle.class_link.specs.declared.linked.LinkedClass.{LinkedClass}
use Rattle.class_link.specs.declared.linked.LinkedMethod.{LinkedMethod}
use Rattle.class_link.specs.Info.{Info}
use Rattle.class_table.specs.Table.{look, name_at}
use Rattle.type_verifier.specs.declared.own.Own.{Own}
use Rattle.type_verifier.specs.declared.end.VerifyFault.{VerifyFault}
use Rattle.type_verifier.specs.ProgramTables.{HasShortCode}
use Rattle.type_verifier.specs.Methods.{BodyFaultIn}
use Rattle.type_verifier.specs.Programs.{place_of}

-- ---- by the rules

-- The code of a method of the library has this fault, which is its first: whatever the method's
-- flags, so rule 1 isn't asked.
pub record FailsInLibrary (p : Look) (n : Name) (k : ℕ) (f : MethodFault) : Type 0 where
  pub class : Linked
  pub method : rules.LinkedMethod
  pub has_class : p n ≡ Some class
  pub of_library : class.library ≡ true
  pub has_method : slice_get class.methods k ≡ Some method
  pub fails : body_fault (classes_of p) n class method (code_in method.body) ≡ Some f

-- No method of the class before this one has a fault.
pub record IsFirstInLibraryClass (p : Look) (n : Name) (k : ℕ) (f : MethodFault) : Type 0 where
  pub fails : FailsInLibrary p n k f
  pub before :
      (c : Linked) (j : ℕ) (m : rules.LinkedMethod) → j < k → p n ≡ Some c
      → slice_get c.methods j ≡ Some m
      → body_fault (classes_of p) n c m (code_in m.body) ≡ None

-- A class is accepted, if it is one of the library.
abbrev pub IsAcceptedInLibrary : List Info → ℕ → Type 0
IsAcceptedInLibrary p id =
    (c : Linked) → look p (name_at p id) ≡ Some c → c.library ≡ true
    → ClassAccepted (look p) (name_at p id)

-- The library is refused by this fault: it is the first one of its class, and no class of the
-- library before it, by number, has one.
pub record IsFirstInLibrary (p : List Info) (f : VerifyFault) : Type 0 where
  pub within : f.class.0 < length p
  pub first : IsFirstInLibraryClass (look p) (name_at p f.class.0) f.method (place_of f)
  pub before : (j : ℕ) → j < f.class.0 → IsAcceptedInLibrary p j

-- ---- of one class

-- The code of each method of a class is accepted, whatever the flags.
abbrev pub AreBodiesIn : List Info → Name → LinkedClass → Type 0
AreBodiesIn p n c =
    (j : ℕ) (m : LinkedMethod) → slice_get c.methods j ≡ Some m → BodyFaultIn p n c m None

-- The code of each method before a place is.
abbrev pub BodiesBefore : List Info → Name → LinkedClass → ℕ → Type 0
BodiesBefore p n c k =
    (j : ℕ) (m : LinkedMethod) → j < k → slice_get c.methods j ≡ Some m → BodyFaultIn p n c m None

-- This is the fault of the code of a method of the class of this name, and that of no method before
-- it has one.
pub record IsFirstBodyIn
    (p : List Info) (n : Name) (c : LinkedClass) (f : VerifyFault) : Type 0 where
  pub method : LinkedMethod
  pub there : slice_get c.methods f.method ≡ Some method
  pub fault : BodyFaultIn p n c method (Some (record { at = f.at; rule = f.rule }))
  pub before : BodiesBefore p n c f.method

-- What is answered of the code of the class of this name and number.
abbrev pub FirstBodyIn : List Info → Name → LinkedClass → ClassId → Option VerifyFault → Type 0
FirstBodyIn p n c id None = AreBodiesIn p n c
FirstBodyIn p n c id (Some f) = (f.class ≡ id) × IsFirstBodyIn p n c f

abbrev pub FirstBodyIs : Own → Option VerifyFault → Type 0
FirstBodyIs o r = FirstBodyIn o.program.now o.name.now o.linked.now o.id r

-- A class of this number, whose instructions have numbers.
pub record IsInfoOf (p : List Info) (id : ℕ) (i : Info) : Type 0 where
  pub there : slice_get p id ≡ Some i
  pub short : All HasShortCode i.linked.methods

-- A class of the library is refused by this fault, which is its first.
pub record IsRefusedInLibrary (p : List Info) (id : ℕ) (f : VerifyFault) : Type 0 where
  pub class : f.class.0 ≡ id
  pub first : IsFirstInLibraryClass (look p) (name_at p id) f.method (place_of f)

abbrev pub LibraryFaultIs : List Info → ℕ → Option VerifyFault → Type 0
LibraryFaultIs p id None = IsAcceptedInLibrary p id
LibraryFaultIs p id (Some f) = IsRefusedInLibrary p id f
