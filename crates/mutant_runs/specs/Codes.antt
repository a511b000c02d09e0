-- Codes of the classes of a program, as the code has them linked.
use Rattle.std.specs.Prelude.{◌≡◌, ◌⊎◌, ◌≤◌, ℕ, All, List, [], Some, IfSome, slice_get, slice_set}
use Rattle.program_rules.specs.Names.{Name}
use Rattle.program_rules.specs.Linked.{method_in}
use Rattle.program_rules.specs.Programs.{Look}
use Rattle.class_link.specs.declared.linked.Entry.{Entry}
use Rattle.class_link.specs.declared.linked.LinkedBody.TheVariants as body
use Rattle.class_link.specs.declared.linked.LinkedCode.{LinkedCode}
use Rattle.class_link.specs.declared.linked.LinkedMethod.{LinkedMethod}
use Rattle.class_link.specs.declared.loaded.ClassBody.{ClassBody}
use Rattle.class_link.specs.declared.loaded.ClassBody.TheVariants as from
use Rattle.class_link.specs.Edits.{class_edited}
use Rattle.class_link.specs.Info.{Info, IsInfo, link_body}
use Rattle.class_link.specs.Linking.{link_library}
use Rattle.class_link.specs.View.{method_of}
use Rattle.class_reader.specs.Spells.{IsClass}
use Rattle.class_table.specs.Table.{look, IsProgram}
use Rattle.type_laws.specs.Bounds.{HasBoundedCodes}
use Rattle.type_rules.specs.Rules.{ClassAccepted}
use Rattle.type_verifier.specs.Programs.{AreNumbered}
use Rattle.mutant_runs.specs.Put.{IsPut}

-- ---- within the bounds of a class file

-- The codes of a class are within the bounds of a class file.
abbrev pub IsBoundedBody : ClassBody → Type 0
IsBoundedBody b = HasBoundedCodes (link_body b)

-- A class of a class file that has a spelling, of an edit that makes such a class file, or one of
-- the library whose codes are within these bounds.
abbrev pub IsSpelledBody : ClassBody → Type 0
IsSpelledBody (from.File loaded) = IsClass loaded.class
IsSpelledBody (from.Edited e) = IsClass (class_edited e)
IsSpelledBody (from.Library c) = HasBoundedCodes (link_library c)

abbrev pub SpelledAreBounded : Type 0
SpelledAreBounded = (b : ClassBody) → IsSpelledBody b → IsBoundedBody b

-- ---- numbers of instructions

-- Instructions have numbers in a program of such classes.
abbrev pub BoundedAreNumbered : Type 0
BoundedAreNumbered =
    (p : List Info) → All IsInfo p → All (λ i. IsBoundedBody i.body) p → AreNumbered p

-- They have where another class takes the place of one, if that is such a class.
abbrev pub PutStayNumbered : Type 0
PutStayNumbered =
    (p : List Info) (id : ℕ) (old new : Info) → IsPut p id old new → IsBoundedBody new.body →
    AreNumbered p → AreNumbered (slice_set p id new)

-- ---- room for what is caught

-- A linked code has no exception rows, or room for what is caught.
abbrev pub HasRoom : LinkedCode → Type 0
HasRoom c = (c.rows ≡ []) ⊎ (1 ≤ c.max_stack)

-- Each code of a class that is accepted has, if its codes are within these bounds.
abbrev pub AcceptedHaveRoom : Type 0
AcceptedHaveRoom =
    (p : List Info) (id k : ℕ) (i : Info) (m : LinkedMethod) (c : LinkedCode) → IsProgram p →
    slice_get p id ≡ Some i → IsBoundedBody i.body → ClassAccepted (look p) i.name →
    slice_get i.linked.methods k ≡ Some m → m.body ≡ body.Code c → HasRoom c

-- ---- the same by name

-- Each class that a name means in a program of such classes has codes within these bounds.
abbrev pub BoundedByName : Type 0
BoundedByName =
    (p : List Info) (n : Name) → All IsInfo p → All (λ i. IsBoundedBody i.body) p →
    IfSome (look p n) HasBoundedCodes

-- A code has room by what the definitions see of its method, whatever the entries: so the machine
-- knows it (`IsCodeOf` of `jvm_act`).
abbrev pub SeenHaveRoom : Type 0
SeenHaveRoom =
    (p : Look) (n : Name) (k : ℕ) (es : List Entry) (m : LinkedMethod) (c : LinkedCode) →
    IfSome (p n) HasBoundedCodes → ClassAccepted p n → method_in (p n) k ≡ Some (method_of es m) →
    m.body ≡ body.Code c → HasRoom c
